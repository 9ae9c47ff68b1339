-- Nothing moved for edition one: the bytes, the sizes, the reader and the writer's rule at edition one are document 01's as they stand there, by
-- computation; and 01's reader, set on a log of edition two, answers 7 and never an entry. Assumes nothing.
use mathlib.Core.Path.{◌≡◌, refl, ap, ◌∙◌}
use mathlib.Core.Bool.{Bool, cond}
use mathlib.Core.List.{List, [], ◌∷◌, ◌++◌}
use Prim.Native.Nat.{ℕ, ◌+◌, ◌-◌, ◌*◌, ◌/◌, ◌%◌}
use native.Mathlib.Omega.{arith}
use lib.Dec.{leb, eqb}
use lib.ListN.{length, get_or, replicate}
use borrow.Author.Tests.{eq-eqb, ne_eqb}
use Rattle.answers.specs.Answers.{given, refused}
use Rattle.blocks.specs.Blocks.{le, bytes_of, block, flat}
use Rattle.page_diff.specs.Diff.{bytes_of_words, count_of, reserved}
use Rattle.wal.specs.Log.{clear, update, edition_one, start_record, start_size, record_of, clear_size, update_size, finished_length, end_record}
use Rattle.wal.specs.Reader.{stopped, edition_at, start_in, start_of, by_tag, next_at, read_log, read_after_start}
use Rattle.wal.specs.Writer.{open_at, capacity, clear_answer, update_answer, finish_answer}
use Rattle.wal.specs.declared.AfterEnd.{AfterEnd}
use Rattle.wal.specs.declared.Edition.TheVariants.{One, Two}

-- "start = 1, sync number u32; clear = 3, bucket u64; update = 4, id 32, diff 16, the marked nodes, elided 8, bucket u64; end = 2, then zeros to a
-- multiple of 4,096"
pub same_start : (sync : ℕ) → start_record (edition_one sync) ≡ 1 ∷ bytes_of 4 sync
same_start sync = refl

pub same_clear : (b : ℕ) → record_of One (clear b) ≡ 3 ∷ bytes_of 8 b
unfolding record_of
same_clear b = refl

pub same_update : (id ws : List ℕ) (ns : List (List ℕ)) (el : List ℕ) (b : ℕ) → record_of One (update id ws ns el b) ≡ 4 ∷ (id ++ (bytes_of_words ws ++ (flat ns ++ (el ++ bytes_of 8 b))))
unfolding record_of
same_update id ws ns el b = refl

pub same_end : (pos : ℕ) → end_record One pos ≡ 2 ∷ replicate ((pos + 1 + 4095) / 4096 * 4096 - (pos + 1)) 0
same_end pos = refl

pub same_sizes : (c : ℕ) → start_size One ∷ clear_size One ∷ update_size One c ∷ [] ≡ 5 ∷ 9 ∷ (65 + 32 * c) ∷ []
same_sizes c = let e : 1 + (64 + 32 * c) ≡ 65 + 32 * c = omega arith in ap (λ (n : ℕ). 5 ∷ 9 ∷ n ∷ []) e

-- "The reader when set: 5, then 6 for an empty log, 7"; a tag at a position, and what stands after it
pub same_reader : (log : List ℕ) → start_in One log ≡ cond (eqb (length log % 4096) 0) (cond (eqb (length log) 0) (refused 6) (cond (eqb (get_or log 0 0) 1) (given (le (block 4 log 1))) (refused 7))) (refused 5)
unfolding start_in
same_reader log = refl

pub same_next : (log : List ℕ) (at : ℕ) → next_at One log at ≡ cond (leb (at + 1) (length log)) (by_tag (get_or log at 0) log (at + 1)) (stopped 6)
unfolding next_at
same_next log at = refl

-- "A record is taken exactly when position + size + 1 is at most capacity"; "13 if position + 1 is above its capacity"
pub same_room : (log : List ℕ) (pos : ℕ) (ws : List ℕ) (held : ℕ)
    → (clear_answer log (open_at One pos) ≡ cond (leb (pos + 9 + 1) (capacity log)) (given tt) (refused 13))
    × (update_answer log (open_at One pos) ws held ≡ cond (eqb held (count_of ws)) (cond (reserved ws) (refused 4) (cond (leb (pos + (1 + (64 + 32 * held)) + 1) (capacity log)) (given tt) (refused 13))) (refused 2))
    × (finish_answer log (open_at One pos) ≡ cond (leb (pos + 0 + 1) (capacity log)) (given (finished_length One pos)) (refused 13))
unfolding clear_answer update_answer finish_answer
same_room log pos ws held = (refl, refl, refl)

-- a log that does not begin with 0xB2 is read as 01 reads it
pub same_log : (log : List ℕ) → (get_or log 0 0 ≡ 0xB2 → ⊥) → (start_of log ≡ start_in One log) × ((rule : AfterEnd) → read_log rule log ≡ read_after_start rule One log)
same_log log n =
    let one : edition_at log ≡ One = ap (λ (b : Bool). cond b Two One) (ne_eqb (get_or log 0 0) 0xB2 n) in
    (ap (λ ed. start_in ed log) one, λ rule. ap (λ ed. read_after_start rule ed log) one)

-- "An edition one reader meets 0xB2 and answers 7, never entries": whatever the log holds, its pages whole
some_byte : (log : List ℕ) → get_or log 0 0 ≡ 0xB2 → length log ≡ 0 → ⊥
some_byte [] e z = omega arith
some_byte (b ∷ bs) e z = omega arith

pub old_reader_refuses : (log : List ℕ) → get_or log 0 0 ≡ 0xB2 → length log % 4096 ≡ 0 → start_in One log ≡ refused 7
unfolding start_in
old_reader_refuses log e pages =
    ap (λ (t : Bool). cond t (cond (eqb (length log) 0) (refused 6) (cond (eqb (get_or log 0 0) 1) (given (le (block 4 log 1))) (refused 7))) (refused 5)) (eq-eqb (length log % 4096) 0 pages)
    ∙ ap (λ (t : Bool). cond t (refused 6) (cond (eqb (get_or log 0 0) 1) (given (le (block 4 log 1))) (refused 7))) (ne_eqb (length log) 0 (some_byte log e))
    ∙ ap (λ (t : Bool). cond t (given (le (block 4 log 1))) (refused 7)) (ne_eqb (get_or log 0 0) 1 (λ o. omega arith))
