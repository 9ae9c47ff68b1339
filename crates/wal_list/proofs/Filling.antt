-- The lines before a position stand at the start of the memory, and what is left to come are the lines from there on. Assumes nothing.
use mathlib.Core.Path.{◌≡◌, refl, sym, ap, ◌∙◌, subst}
use mathlib.Core.List.{List, [], ◌++◌, append_assoc}
use borrow.Rule.Slice.PartMut.{put_mid, mid_of}
use Prim.Native.Nat.{ℕ, zero, suc, ◌+◌, ◌-◌, ◌*◌, ◌≤◌}
use native.Mathlib.Omega.{arith}
use borrow.Author.Tests.{le-leb}
use lib.ListN.{length, drop, length-append, length-drop}
use lib.Seq.{length-take-le}
use Rattle.answers.specs.Answers.{given}
use Rattle.blocks.specs.Blocks.{put}
use Rattle.blocks.proofs.Laws.{put_fits, put-length}
use Rattle.wal_list.specs.Lines.{most, lines_of}
use Rattle.wal_list.specs.Shown.{Shown, more, last, shown_at, text_of, on, over, said_of, lines_size, lines_answer, lines_after}
use Rattle.wal_list.proofs.Writing.{Written, written_on, part-put}
use Rattle.wal_list.proofs.AllLines.{and_on, lines_in, all_lines, text_short, Leads, shown_leads}
use Rattle.wal_list.proofs.Fits.{lines_fit}

-- ---- memory that is long enough is filled, shorter memory stays
module _ (log out : List ℕ) where
  pub lines-put : (m : List ℕ) (n : ℕ) → lines_size ≤ length out → Written out (lines_of log) m n → (given n ≡ lines_answer out log) × (m ≡ lines_after out log)
  lines-put m n h w = (ap given w.1 ∙ simp (le-leb lines_size (length out) h), w.0 ∙ simp (le-leb lines_size (length out) h))

-- ---- which line was shown, by what a call says
pub told_over : (s : Shown) (n : ℕ) → given (over n) ≡ given (said_of s) → (s ≡ last (text_of s)) × (n ≡ length (text_of s))
told_over (more t p) n e = cc
told_over (last t) n e = (refl, cc)

pub told_on : (s : Shown) (n p : ℕ) → given (on n p) ≡ given (said_of s) → (s ≡ more (text_of s) p) × (n ≡ length (text_of s))
told_on (more t q) n p e = let f : q ≡ p = cc in (ap (more t) f, cc)
told_on (last t) n p e = cc

-- ---- what is left, by the line that is next
module _ (log : List ℕ) (at b : ℕ) (t : List ℕ) where
  left_last : shown_at log at ≡ last t → lines_in (suc b) log at ≡ t
  unfolding lines_in
  left_last h = ap (λ (s : Shown). and_on s (lines_in b log)) h

  left_more : (p : ℕ) → shown_at log at ≡ more t p → lines_in (suc b) log at ≡ t ++ lines_in b log p
  unfolding lines_in
  left_more p h = ap (λ (s : Shown). and_on s (lines_in b log)) h

-- ---- at the head of a turn; `bound` is one on how many lines follow
pub record Filled (log out₀ out : List ℕ) (done at : ℕ) : Type 0 where
  pub lines : List ℕ
  pub bound : ℕ
  pub written : Written out₀ lines out done
  pub left : lines ++ lines_in (suc bound) log at ≡ lines_of log
  pub enough : length log ≤ at + bound

pub filled_start : (log out : List ℕ) → Filled log out out 0 0
filled_start log out = record { lines = []; bound = length log; written = (sym (put_fits out 0 [] (omega arith)), refl); left = all_lines (length log) log (omega arith); enough = omega arith }

module _ (log out₀ out : List ℕ) (done at : ℕ) (room : lines_size ≤ length out₀) (f : Filled log out₀ out done at) where
  pub same_long : length out ≡ length out₀
  same_long = ap length f.written.0 ∙ put-length out₀ 0 f.lines

  -- a line fits what is not filled
  pub done_few : done ≤ 4 * most + 80
  done_few = omega (arith, f.written.1, length-append f.lines (lines_in (suc f.bound) log at), ap length f.left, lines_fit log)

  pub done_short : done + 80 ≤ length out
  done_short = omega (arith, done_few, same_long)

  -- the part that a line is put into
  abbrev part : List ℕ
  part = mid_of done (length out - done) out

  pub part_room : 80 ≤ length part
  part_room = omega (arith, done_short, length-take-le (length out - done) (drop done out) (omega (arith, length-drop done out)))

  abbrev shown : Shown
  shown = shown_at log at

  -- the memory with that line
  module _ (m : List ℕ) (filled : m ≡ put part 0 (text_of shown)) where
    abbrev after : List ℕ
    after = put_mid done (length out - done) out m

    put_there : after ≡ put out done (text_of shown)
    put_there =
        ap (put_mid done (length out - done) out) filled
        ∙ part-put out done (text_of shown) (omega (arith, done_short, text_short log at))

    written_line : (n : ℕ) → n ≡ length (text_of shown) → Written out₀ (f.lines ++ text_of shown) after (done + n)
    written_line n e =
        written_on out₀ f.lines out done (text_of shown) after (done + n) f.written (omega (arith, done_short, same_long, text_short log at, f.written.1)) put_there (omega arith)

    -- the last line
    pub filled_end : (n : ℕ) → given (over n) ≡ given (said_of shown) → Written out₀ (lines_of log) after (done + n)
    filled_end n h =
        let told = told_over shown n h in
        subst (λ (t : List ℕ). Written out₀ t after (done + n))
        (sym (ap (λ (t : List ℕ). f.lines ++ t) (left_last log at f.bound (text_of shown) told.0)) ∙ f.left)
        (written_line n told.1)

    -- a line before it
    pub filled_turn : (n p : ℕ) → given (on n p) ≡ given (said_of shown) → Filled log out₀ after (done + n) p × Leads log at p
    filled_turn n p h =
        let told = told_on shown n p h in
        let ahead = shown_leads log at (text_of shown) p told.0 in
        (go f.bound ahead f.left f.enough told.0 (written_line n told.1), ahead)
      where
        go : (b : ℕ) → Leads log at p → f.lines ++ lines_in (suc b) log at ≡ lines_of log → length log ≤ at + b → shown ≡ more (text_of shown) p → Written out₀ (f.lines ++ text_of shown) after (done + n) → Filled log out₀ after (done + n) p
        go zero a l e s w = absurd (omega arith)
        go (suc b) a l e s w =
            record {
              lines = f.lines ++ text_of shown;
              bound = b;
              written = w;
              left =
                  append_assoc f.lines (text_of shown) (lines_in (suc b) log p)
                  ∙ sym (ap (λ (t : List ℕ). f.lines ++ t) (left_more log at (suc b) (text_of shown) p s))
                  ∙ l;
              enough = omega arith;
            }
