-- What the contracts of the calls give together: an accepted call leaves room for finish; the finished length; the bytes that no call
-- touches; two answers to one input are equal. Assumes nothing.
use mathlib.Core.Path.{◌≡◌, refl, sym, ap, ap₂, ◌∙◌}
use mathlib.Core.Bool.{Bool, true, false, cond, true≢false}
use mathlib.Core.List.{List}
use mathlib.Core.Logic.{◌⊎◌, inl, inr, ⊎_elim}
use Prim.Native.Nat.{ℕ, ◌+◌, ◌-◌, ◌%◌, ◌≤◌, ◌<◌}
use native.Mathlib.Omega.{arith}
use lib.Dec.{leb, eqb}
use lib.ListN.{length, get_or, replicate, length-append, length-replicate}
use borrow.Author.Tests.{le-leb, leb-true}
use Rattle.std.specs.Prelude.{Result}
use Rattle.answers.specs.Answers.{Answer, given, refused, accepted, answer_of}
use Rattle.answers.specs.declared.Refusal.{Refusal}
use Rattle.answers.proofs.Laws.{answer_one}
use Rattle.blocks.specs.Blocks.{put}
use Rattle.blocks.proofs.Laws.{put_left, put_right, put-length}
use Rattle.page_diff.specs.Diff.{count_of, reserved}
use Rattle.wal.specs.Log.{clear, update, mark, mark_size, record_of, start_record, start_size, clear_size, update_size, finished_length, end_record}
use Rattle.wal.specs.Writer.{open_at, capacity, position, edition_of, log_by, begin_answer, begin_writer, begin_log, clear_answer, update_answer, record_log, record_writer, finish_answer, finish_log}
use Rattle.wal.specs.Run.{WideStart, Handed}
use Rattle.wal.specs.declared.Edition.{Edition}
use Rattle.wal.specs.declared.Edition.TheVariants.{One, Two}
use Rattle.wal.specs.declared.Start.{Start}
use Rattle.wal.specs.declared.Writer.{Writer}
use Rattle.wal.specs.declared.Writer.TheVariants.{Fresh, Open, Finished}
use Rattle.wal.proofs.Records.{mark-length, clear-length, update-length}
use Rattle.wal.proofs.RoundTrip.{same_capacity, start-length}
use Rattle.wal_write.specs.Calls.{clear_writer, clear_log, update_writer, page_update_answer, page_update_writer}
use Rattle.wal_write.proofs.CallLaws.{tested, taken, clear_tests, update_tests, page_tests, finish_tests}

-- ---- an accepted call: the writer was open, and there was room for the record and an end
pub accepted_room : {A : Type 0} (log : List ℕ) (w : Writer) (fit bad : Bool) (size : Edition → ℕ) (x : A) → accepted (tested log w fit bad size (given x)) ≡ true
    → (w ≡ open_at (edition_of w) (position w)) × (position w + size (edition_of w) + mark_size (edition_of w) ≤ capacity log)
accepted_room log Fresh fit bad size x e = absurd (true≢false (sym e))
accepted_room {A} log (Open p ed) fit bad size x e =
    (refl, leb-true (p + size ed + mark_size ed) (capacity log) (through fit bad (leb (p + size ed + mark_size ed) (capacity log)) e))
  where
    through : (f b l : Bool) → accepted (cond f (cond b (refused 4) (cond l (given x) (refused 13))) (refused 2)) ≡ true → l ≡ true
    through true true l e = absurd (true≢false (sym e))
    through true false true e = refl
    through true false false e = absurd (true≢false (sym e))
    through false b l e = absurd (true≢false (sym e))
accepted_room log (Finished n) fit bad size x e = absurd (true≢false (sym e))

-- ---- "so finish fits the same slice": it is given in every slice of the length of the one in which the call was accepted
pub finish_at : (ed : Edition) (log : List ℕ) (pos : ℕ) → pos + mark_size ed ≤ capacity log → finish_answer log (open_at ed pos) ≡ given (finished_length ed pos)
finish_at ed log pos h =
    finish_tests log (open_at ed pos)
    ∙ taken log (open_at ed pos) true false (λ e. 0) (given (finished_length ed pos)) ed pos refl refl refl (le-leb (pos + 0 + mark_size ed) (capacity log) (omega arith))

-- a log without entries is a page, in either edition
empty-length : (ed : Edition) → finished_length ed (start_size ed) ≡ 4096
empty-length One = refl
empty-length Two = refl

module _ (log out : List ℕ) (w : Writer) (same : length out ≡ length log) where
  pub finish_after_begin : (ed : Edition) → accepted (begin_answer log) ≡ true → finish_answer out (begin_writer log w ed) ≡ given 4096
  unfolding begin_answer
  finish_after_begin ed e =
      ap (λ (t : Bool). finish_answer out (cond t (open_at ed (start_size ed)) w)) e
      ∙ finish_at ed out (start_size ed) (omega (arith, empty-length ed, enough (leb 4096 (capacity log)) refl e, same_capacity out log same))
      ∙ ap given (empty-length ed)
    where
      enough : (t : Bool) → leb 4096 (capacity log) ≡ t → accepted {A = Unit {0}} (cond t (given tt) (refused 13)) ≡ true → 4096 ≤ capacity log
      enough true h e = leb-true 4096 (capacity log) h
      enough false h e = absurd (true≢false (sym e))

  finish_after : (a : Answer (Unit {0})) (fit bad : Bool) (size : Edition → ℕ) → a ≡ tested log w fit bad size (given tt) → accepted a ≡ true
      → finish_answer out (record_writer a w (size (edition_of w))) ≡ given (finished_length (edition_of w) (position w + size (edition_of w)))
  finish_after a fit bad size t e =
      let ed : Edition = edition_of w in
      ap (λ (b : Bool). finish_answer out (cond b (open_at ed (position w + size ed)) w)) e
      ∙ finish_at ed out (position w + size ed) (omega (arith, (accepted_room log w fit bad size tt (ap accepted (sym t) ∙ e)).1, same_capacity out log same))

  pub finish_after_clear : accepted (clear_answer log w) ≡ true → finish_answer out (clear_writer log w) ≡ given (finished_length (edition_of w) (position w + clear_size (edition_of w)))
  finish_after_clear = finish_after (clear_answer log w) true false clear_size (clear_tests log w)

  pub finish_after_update : (ws : List ℕ) (held : ℕ) → accepted (update_answer log w ws held) ≡ true → finish_answer out (update_writer log w ws held) ≡ given (finished_length (edition_of w) (position w + update_size (edition_of w) held))
  finish_after_update ws held = finish_after (update_answer log w ws held) (eqb held (count_of ws)) (reserved ws) (λ ed. update_size ed held) (update_tests log w ws held)

  pub finish_after_page : (ws page : List ℕ) → accepted (page_update_answer log w ws page) ≡ true → finish_answer out (page_update_writer log w ws page) ≡ given (finished_length (edition_of w) (position w + update_size (edition_of w) (count_of ws)))
  finish_after_page ws page = finish_after (page_update_answer log w ws page) (eqb (length page) 4096) (reserved ws) (λ ed. update_size ed (count_of ws)) (page_tests log w ws page)

-- ---- "zeros to a multiple of 4,096": the finished length is the smallest multiple that holds the mark of the end, and within the capacity
pub record SmallestPages (end n : ℕ) : Type 0 where
  pub pages : n % 4096 ≡ 0
  pub holds : end ≤ n
  pub least : (m : ℕ) → m % 4096 ≡ 0 → end ≤ m → n ≤ m

pub finished-length : (ed : Edition) (pos : ℕ) → SmallestPages (pos + mark_size ed) (finished_length ed pos)
finished-length ed pos = record { pages = omega arith; holds = omega arith; least = λ m p h. omega arith }

pub finished_within : (log : List ℕ) (w : Writer) → accepted (finish_answer log w) ≡ true → finished_length (edition_of w) (position w) ≤ capacity log
finished_within log w e =
    omega (arith, (accepted_room log w true false (λ ed. 0) (finished_length (edition_of w) (position w)) (ap accepted (sym (finish_tests log w)) ∙ e)).1)

-- ---- no call changes the length of the log, or a byte outside what it writes
module _ {A : Type 0} (a : Answer A) (log : List ℕ) (pos : ℕ) (bytes : List ℕ) where
  pub same_length : length (log_by a log pos bytes) ≡ length log
  same_length = go (accepted a)
    where
      go : (t : Bool) → length (cond t (put log pos bytes) log) ≡ length log
      go true = put-length log pos bytes
      go false = refl

  pub outside : (i : ℕ) → (i < pos) ⊎ (pos + length bytes ≤ i) → get_or (log_by a log pos bytes) i 0 ≡ get_or log i 0
  outside i h = go (accepted a)
    where
      go : (t : Bool) → get_or (cond t (put log pos bytes) log) i 0 ≡ get_or log i 0
      go true = ⊎_elim (put_left log pos bytes i) (put_right log pos bytes i) h
      go false = refl

  -- the same, where the width is known by an equation
  outside_sized : (n : ℕ) → length bytes ≡ n → (i : ℕ) → (i < pos) ⊎ (pos + n ≤ i) → get_or (log_by a log pos bytes) i 0 ≡ get_or log i 0
  outside_sized n e i h = outside i (⊎_elim (λ l. inl l) (λ l. inr (omega arith)) h)

pub begin_outside : (log : List ℕ) (start : Start) → WideStart start → (i : ℕ) → start_size start.edition ≤ i → get_or (begin_log log start) i 0 ≡ get_or log i 0
begin_outside log start wide i h = outside_sized (begin_answer log) log 0 (start_record start) (start_size start.edition) (start-length start wide) i (inr (omega arith))

pub clear_outside : (log : List ℕ) (w : Writer) (b i : ℕ) → (i < position w) ⊎ (position w + clear_size (edition_of w) ≤ i) → get_or (clear_log log w b) i 0 ≡ get_or log i 0
clear_outside log w b = outside_sized (clear_answer log w) log (position w) (record_of (edition_of w) (clear b)) (clear_size (edition_of w)) (clear-length (edition_of w) b)

-- an update of any kind
pub update_outside : (a : Answer (Unit {0})) (log : List ℕ) (w : Writer) (id ws : List ℕ) (ns : List (List ℕ)) (elided : List ℕ) (b : ℕ) → Handed id ws ns elided b
    → (i : ℕ) → (i < position w) ⊎ (position w + update_size (edition_of w) (length ns) ≤ i) → get_or (record_log a log w (record_of (edition_of w) (update id ws ns elided b))) i 0 ≡ get_or log i 0
update_outside a log w id ws ns elided b h =
    outside_sized a log (position w) (record_of (edition_of w) (update id ws ns elided b)) (update_size (edition_of w) (length ns)) (update-length (edition_of w) id ws ns elided b h)

-- finish: the slice before the end, and the slice past the length that is answered
pub finish_outside : (log : List ℕ) (w : Writer) (i : ℕ) → (i < position w) ⊎ (finished_length (edition_of w) (position w) ≤ i) → get_or (finish_log log w) i 0 ≡ get_or log i 0
finish_outside log w i h =
    let ed : Edition = edition_of w in
    let n : ℕ = finished_length ed (position w) - (position w + mark_size ed) in
    let long : length (end_record ed (position w)) ≡ mark_size ed + n = length-append (mark ed 2) (replicate n 0) ∙ ap₂ (λ (j k : ℕ). j + k) (mark-length ed 2) (length-replicate {A = ℕ} n 0) in
    outside_sized (finish_answer log w) log (position w) (end_record ed (position w)) (mark_size ed + n) long i (⊎_elim (λ l. inl l) (λ l. inr (omega arith)) h)

-- ---- two answers that a contract allows for one input are equal, and the states after them
pub written_one : (a b : Result (Unit {0}) Refusal × Writer) → answer_of a.0 ≡ answer_of b.0 → a.1 ≡ b.1 → a ≡ b
written_one a b e f = ap₂ (λ (r : Result (Unit {0}) Refusal) (w : Writer). (r, w)) (answer_one a.0 b.0 e) f

pub finished_one : (a b : Result ℕ Refusal × Writer) → answer_of a.0 ≡ answer_of b.0 → a.1 ≡ b.1 → a ≡ b
finished_one a b e f = ap₂ (λ (r : Result ℕ Refusal) (w : Writer). (r, w)) (answer_one a.0 b.0 e) f
