-- What stands at a position, test by test; and what is known of it by its kind. Assumes nothing.
use mathlib.Core.Path.{◌≡◌, refl, sym, ap, ◌∙◌}
use mathlib.Core.Bool.{Bool, true, false, cond, ◌&&◌}
use mathlib.Core.List.{List, [], ◌∷◌}
use Prim.Native.Nat.{ℕ, ◌+◌, ◌-◌, ◌*◌, ◌%◌, ◌≤◌, ◌<◌}
use native.Mathlib.Omega.{arith}
use lib.Dec.{leb, eqb}
use lib.ListN.{length, get_or}
use borrow.Author.Tests.{le-leb, lt-leb, leb-true, eq-eqb, ne_eqb, eqb-true, eqb-false}
use Rattle.std.specs.Prelude.{Result, Ok, Err, IsOk}
use Rattle.answers.specs.Refusals.{number_of}
use Rattle.answers.specs.declared.Refusal.{Refusal}
use Rattle.answers.specs.Answers.{Answer, given, refused, done_of}
use Rattle.answers.proofs.Laws.{given_refused, refused_one}
use Rattle.blocks.specs.Blocks.{le, block}
use Rattle.page_diff.specs.Diff.{words_of, count_of, reserved, read_answer, read_words}
use Rattle.page_diff.specs.declared.Diff.{Diff}
use Rattle.wal.specs.Log.{clear, mark_size, update_body}
use Rattle.wal.specs.Reader.{next, stopped, edition_at, marks_at, start_in, start_of, clear_at, update_at, update_of, diff_at, by_tag, by_mark, tag_at, next_at}
use Rattle.wal.specs.declared.Edition.{Edition}
use Rattle.wal.specs.declared.Edition.TheVariants.{One, Two}

-- ---- the edition: "The first byte tells: 1 or 0xB2"
pub edition_two_lem : (log : List ℕ) → get_or log 0 0 ≡ 0xB2 → edition_at log ≡ Two
edition_two_lem log e = ap (λ (b : Bool). cond b Two One) (eq-eqb (get_or log 0 0) 0xB2 e)

-- ---- the start: "5, then 6 for an empty log, 7"
module _ (log : List ℕ) where
  pub start_pages : (length log % 4096 ≡ 0 → ⊥) → start_of log ≡ refused 5
  unfolding start_in
  start_pages n = simp (ne_eqb (length log % 4096) 0 n)

  pub start_empty : length log % 4096 ≡ 0 → length log ≡ 0 → start_of log ≡ refused 6
  unfolding start_in
  start_empty p e = simp (eq-eqb (length log % 4096) 0 p, eq-eqb (length log) 0 e)

  -- where the first byte tells the edition, the tag before the sync number tells the start
  starts : marks_at (edition_at log) log 0 1 ≡ eqb (get_or log (mark_size (edition_at log) - 1) 0) 1
  starts = go (eqb (get_or log 0 0) 0xB2) refl
    where
      edition : Bool → Edition
      edition b = cond b Two One

      go : (b : Bool) → eqb (get_or log 0 0) 0xB2 ≡ b → marks_at (edition_at log) log 0 1 ≡ eqb (get_or log (mark_size (edition_at log) - 1) 0) 1
      go true e =
          ap (λ (b : Bool). marks_at (edition b) log 0 1) e ∙ ap (λ (b : Bool). b && eqb (get_or log 1 0) 1) e
          ∙ sym (ap (λ (b : Bool). eqb (get_or log (mark_size (edition b) - 1) 0) 1) e)
      go false e = ap (λ (b : Bool). marks_at (edition b) log 0 1) e ∙ sym (ap (λ (b : Bool). eqb (get_or log (mark_size (edition b) - 1) 0) 1) e)

  pub start_missing : length log % 4096 ≡ 0 → (length log ≡ 0 → ⊥) → (get_or log (mark_size (edition_at log) - 1) 0 ≡ 1 → ⊥) → start_of log ≡ refused 7
  unfolding start_in
  start_missing p e t = simp (eq-eqb (length log % 4096) 0 p, ne_eqb (length log) 0 e, starts, ne_eqb (get_or log (mark_size (edition_at log) - 1) 0) 1 t)

  pub start_given : length log % 4096 ≡ 0 → (length log ≡ 0 → ⊥) → get_or log (mark_size (edition_at log) - 1) 0 ≡ 1 → start_of log ≡ given (le (block 4 log (mark_size (edition_at log))))
  unfolding start_in
  start_given p e t = simp (eq-eqb (length log % 4096) 0 p, ne_eqb (length log) 0 e, starts, eq-eqb (get_or log (mark_size (edition_at log) - 1) 0) 1 t)

-- a log with a start, of either edition, has at least a page
pub start_long : (ed : Edition) (log : List ℕ) (n : ℕ) → start_in ed log ≡ given n → 4096 ≤ length log
unfolding start_in
start_long ed log n h = go (eqb (length log % 4096) 0) (eqb (length log) 0) (marks_at ed log 0 1) refl refl h
  where
    go : (a b c : Bool) → eqb (length log % 4096) 0 ≡ a → eqb (length log) 0 ≡ b → cond a (cond b (refused 6) (cond c (given (le (block 4 log (mark_size ed)))) (refused 7))) (refused 5) ≡ given n → 4096 ≤ length log
    go false b c p q h = absurd (given_refused n 5 (sym h))
    go true true c p q h = absurd (given_refused n 6 (sym h))
    go true false c p q h = omega (arith, eqb-true (length log % 4096) 0 p, eqb-false (length log) 0 q)

-- ---- the mark: what stands there is by its tag, or there is none
abbrev by_answer : {A : Type 0} → (ℕ → A) → (ℕ → A) → Answer ℕ → A
by_answer f g (given t) = f t
by_answer f g (refused n) = g n

mark_answer : {A : Type 0} (ed : Edition) (log : List ℕ) (at : ℕ) (f g : ℕ → A) → by_mark ed log at f g ≡ by_answer f g (tag_at ed log at)
mark_answer {A = A} One log at f g = go (leb (at + 1) (length log))
  where
    go : (a : Bool) → cond a (f (get_or log at 0)) (g 6) ≡ by_answer f g (cond a (given (get_or log at 0)) (refused 6))
    go true = refl
    go false = refl
mark_answer {A = A} Two log at f g = go (leb (at + 1) (length log)) (eqb (get_or log at 0) 0xB2) (leb (at + 2) (length log))
  where
    go : (a b c : Bool) → cond a (cond b (cond c (f (get_or log (at + 1) 0)) (g 6)) (g 8)) (g 6) ≡ by_answer f g (cond a (cond b (cond c (given (get_or log (at + 1) 0)) (refused 6)) (refused 8)) (refused 6))
    go true true true = refl
    go true true false = refl
    go true false c = refl
    go false b c = refl

-- a mark that is there is inside the log
pub mark_within : (ed : Edition) (log : List ℕ) (at t : ℕ) → tag_at ed log at ≡ given t → at + mark_size ed ≤ length log
mark_within One log at t h = go (leb (at + 1) (length log)) refl h
  where
    go : (a : Bool) → leb (at + 1) (length log) ≡ a → cond a (given (get_or log at 0)) (refused 6) ≡ given t → at + 1 ≤ length log
    go true e h = leb-true (at + 1) (length log) e
    go false e h = absurd (given_refused t 6 (sym h))
mark_within Two log at t h = go (leb (at + 1) (length log)) (eqb (get_or log at 0) 0xB2) (leb (at + 2) (length log)) refl h
  where
    go : (a b c : Bool) → leb (at + 2) (length log) ≡ c → cond a (cond b (cond c (given (get_or log (at + 1) 0)) (refused 6)) (refused 8)) (refused 6) ≡ given t → at + 2 ≤ length log
    go true true true e h = leb-true (at + 2) (length log) e
    go true true false e h = absurd (given_refused t 6 (sym h))
    go true false c e h = absurd (given_refused t 8 (sym h))
    go false b c e h = absurd (given_refused t 6 (sym h))

-- "log ends .. before end"
pub tag_past : (ed : Edition) (log : List ℕ) (at : ℕ) → length log ≤ at → tag_at ed log at ≡ refused 6
tag_past One log at h = simp (lt-leb (at + 1) (length log) (omega arith))
tag_past Two log at h = simp (lt-leb (at + 1) (length log) (omega arith))

module _ (log : List ℕ) (at : ℕ) (here : at < length log) where
  within : leb (at + 1) (length log) ≡ true
  within = le-leb (at + 1) (length log) (omega arith)

  -- "For a mark whose first byte isn't 0xB2 the number is 8, at the log's last byte too; a 0xB2 as the last byte there is 6"
  pub tag_bare : (get_or log at 0 ≡ 0xB2 → ⊥) → tag_at Two log at ≡ refused 8
  tag_bare n = simp (within, ne_eqb (get_or log at 0) 0xB2 n)

  pub tag_cut : get_or log at 0 ≡ 0xB2 → length log - at < 2 → tag_at Two log at ≡ refused 6
  tag_cut e h = simp (within, eq-eqb (get_or log at 0) 0xB2 e, lt-leb (at + 2) (length log) (omega arith))

-- ---- what stands after the mark of a tag, by the tests that find it
module _ (log : List ℕ) (p : ℕ) where
  pub by_unknown : (t : ℕ) → (t ≡ 2 → ⊥) → (t ≡ 3 → ⊥) → (t ≡ 4 → ⊥) → by_tag t log p ≡ stopped 8
  by_unknown t a b c = simp (ne_eqb t 2 a, ne_eqb t 3 b, ne_eqb t 4 c)

  pub by_clear_cut : length log < p + 8 → by_tag 3 log p ≡ stopped 6
  unfolding clear_at
  by_clear_cut h = simp (lt-leb (p + 8) (length log) h)

  pub by_clear : p + 8 ≤ length log → by_tag 3 log p ≡ next (clear (le (block 8 log p))) (p + 8)
  unfolding clear_at
  by_clear h = simp (le-leb (p + 8) (length log) h)

  -- "in an update: 6 up to the diff, 4, 6"
  pub by_diff_cut : length log < p + 48 → by_tag 4 log p ≡ stopped 6
  unfolding update_at
  by_diff_cut h = simp (lt-leb (p + 48) (length log) h)

  pub by_reserved : p + 48 ≤ length log → reserved (diff_at log p) ≡ true → by_tag 4 log p ≡ stopped 4
  unfolding update_at
  by_reserved h r = simp (le-leb (p + 48) (length log) h, r)

  pub by_update_cut : p + 48 ≤ length log → reserved (diff_at log p) ≡ false → length log < p + update_body (count_of (diff_at log p)) → by_tag 4 log p ≡ stopped 6
  unfolding update_at
  by_update_cut h r s = simp (le-leb (p + 48) (length log) h, r, lt-leb (p + (64 + 32 * count_of (diff_at log p))) (length log) s)

  pub by_update : reserved (diff_at log p) ≡ false → p + update_body (count_of (diff_at log p)) ≤ length log → by_tag 4 log p ≡ next (update_of log p) (p + update_body (count_of (diff_at log p)))
  unfolding update_at
  by_update r s = simp (le-leb (p + 48) (length log) (omega arith), r, le-leb (p + (64 + 32 * count_of (diff_at log p))) (length log) s)

-- ---- an entry, by its mark
module _ (ed : Edition) (log : List ℕ) (at : ℕ) where
  pub next_unmarked : (n : ℕ) → tag_at ed log at ≡ refused n → next_at ed log at ≡ stopped n
  unfolding next_at
  next_unmarked n e = mark_answer ed log at (λ t. by_tag t log (at + mark_size ed)) stopped ∙ ap (by_answer (λ t. by_tag t log (at + mark_size ed)) stopped) e

  pub next_past : length log ≤ at → next_at ed log at ≡ stopped 6
  next_past h = next_unmarked 6 (tag_past ed log at h)

  pub next_tagged : (t : ℕ) → tag_at ed log at ≡ given t → next_at ed log at ≡ by_tag t log (at + mark_size ed)
  unfolding next_at
  next_tagged t e = mark_answer ed log at (λ t. by_tag t log (at + mark_size ed)) stopped ∙ ap (by_answer (λ t. by_tag t log (at + mark_size ed)) stopped) e

-- ---- the diff that is read
module _ (bs : List ℕ) where
  pub read_refused : (n : ℕ) → refused n ≡ read_answer bs → (reserved (words_of bs) ≡ true) × (n ≡ 4)
  read_refused n e = go (reserved (words_of bs)) refl
    where
      go : (b : Bool) → reserved (words_of bs) ≡ b → (reserved (words_of bs) ≡ true) × (n ≡ 4)
      go true h = (h, refused_one n 4 (e ∙ ap (λ (b : Bool). cond b (refused 4) (given tt)) h))
      go false h = absurd (given_refused tt n (sym (e ∙ ap (λ (b : Bool). cond b (refused 4) (given tt)) h)))

  pub read_given : given tt ≡ read_answer bs → reserved (words_of bs) ≡ false
  read_given e = go (reserved (words_of bs)) refl
    where
      go : (b : Bool) → reserved (words_of bs) ≡ b → reserved (words_of bs) ≡ false
      go true h = absurd (given_refused tt 4 (e ∙ ap (λ (b : Bool). cond b (refused 4) (given tt)) h))
      go false h = h

  pub read_words_lem : reserved (words_of bs) ≡ false → read_words bs ≡ words_of bs
  read_words_lem h = ap (λ (b : Bool). cond b (0 ∷ 0 ∷ []) (words_of bs)) h

-- the call that read it was not refused
pub read_ok : (bs : List ℕ) (r : Result Diff Refusal) → done_of r ≡ read_answer bs → reserved (words_of bs) ≡ false → IsOk r
read_ok bs (Ok d) e h = refl
read_ok bs (Err k) e h = absurd (given_refused tt (number_of k) (sym (e ∙ ap (λ (b : Bool). cond b (refused 4) (given tt)) h)))
