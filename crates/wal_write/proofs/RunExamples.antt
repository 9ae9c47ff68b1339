-- A run by computation, 01's example of a log: "sync 7, clear 3, update of bucket 9 with two slots", the update lent a table with other
-- bytes from the count on, and one of a page after it. Each promise is met, each call accepted, and the log reads back. Assumes nothing.
use mathlib.Core.Path.{◌≡◌, refl}
use mathlib.Core.List.{List, [], ◌∷◌}
use Prim.Native.Nat.{ℕ, zero, suc}
use native.Mathlib.Omega.{arith}
use lib.Dec.{lit<}
use lib.ListN.{take, replicate}
use Rattle.std.specs.Prelude.{Result, Ok}
use Rattle.answers.specs.Answers.{given}
use Rattle.answers.specs.declared.Refusal.{Refusal}
use Rattle.blocks.specs.Blocks.{block, put, flat}
use Rattle.page_diff.specs.Diff.{digit, marked, slots_below}
use Rattle.wal.specs.Log.{Entry, clear, update, edition_one, record_of, records_of}
use Rattle.wal.specs.Reader.{read_log}
use Rattle.wal.specs.Run.{Wide, Rows, Run}
use Rattle.wal.specs.Writer.{open_at, begin_answer, begin_log, clear_answer, update_answer, finish_answer, finish_log}
use Rattle.wal.specs.declared.AfterEnd.{AfterEnd}
use Rattle.wal.specs.declared.Edition.TheVariants.{One}
use Rattle.wal.specs.declared.Start.{Start}
use Rattle.wal.specs.declared.Writer.TheVariants.{Fresh, Finished}
use Rattle.wal_write.specs.Calls.{clear_log, update_log, page_update_answer, page_update, page_update_log, Begins, Clears, Updates, UpdatesPage, Finishes}
use Rattle.wal_write.proofs.Runs.{after_begin, after_clear, after_update, after_page_update, reads_back}

-- a slice of one page; what the update hands over: slots 0 and 2, two nodes and a table that goes on with nines
abbrev slice : List ℕ
slice = replicate 4096 0

abbrev start : Start
start = edition_one 7

abbrev id : List ℕ
id = replicate 32 1

abbrev words : List ℕ
words = 5 ∷ 0 ∷ []

abbrev table : List (List ℕ)
table = replicate 32 7 ∷ replicate 32 8 ∷ replicate 124 (replicate 32 9)

abbrev elided : List ℕ
elided = replicate 8 2

abbrev page : List ℕ
page = replicate 4096 2

-- a record taken; the writer is then open at so much
abbrev done : Result (Unit {0}) Refusal
done = Ok tt

abbrev log₁ : List ℕ
log₁ = begin_log slice start

abbrev log₂ : List ℕ
log₂ = clear_log log₁ (open_at One 5) 3

abbrev log₃ : List ℕ
log₃ = update_log log₂ (open_at One 14) id words table 2 elided 9

abbrev log₄ : List ℕ
log₄ = page_update_log log₃ (open_at One 143) id words page 9

-- the entry is made of the two nodes alone
abbrev updated : Entry
updated = update id words (replicate 32 7 ∷ replicate 32 8 ∷ []) elided 9

begins : Begins slice Fresh start done (open_at One 5) log₁
unfolding begin_answer
begins = (refl, (refl, refl), record { number = lit< tt; seed_long = refl })

clears : Clears log₁ (open_at One 5) 3 done (open_at One 14) log₂
unfolding begin_answer clear_answer put
clears = (refl, (refl, refl), lit< tt)

wide : Wide id words elided 9
wide = record { change = record { id_long = refl; two_words = refl; low_word = lit< tt; high_word = lit< tt }; elided_long = refl; bucket = lit< tt }

rows : Rows table 2
rows zero h = refl
rows (suc zero) h = refl
rows (suc (suc i)) h = absurd (omega arith)

updates : Updates log₂ (open_at One 14) id words table 2 elided 9 done (open_at One 143) log₃
unfolding begin_answer clear_answer update_answer put record_of slots_below marked digit
updates = (refl, (refl, refl), wide, λ ok. rows)

pages : UpdatesPage log₃ (open_at One 143) id words page 9 done (open_at One 272) log₄
unfolding begin_answer clear_answer update_answer page_update_answer put record_of flat block slots_below marked digit
pages = (refl, (refl, refl), wide)

finishes : Finishes log₄ (open_at One 272) (Ok 4096) (Finished 4096) (finish_log log₄ (open_at One 272))
unfolding begin_answer clear_answer update_answer page_update_answer finish_answer put record_of flat block slots_below marked digit
finishes = (refl, (refl, refl))

-- the calls, one after the other
one_call : Run slice start (open_at One 5) log₁ []
one_call = after_begin slice Fresh start done (open_at One 5) log₁ begins refl

two_calls : Run slice start (open_at One 14) log₂ (clear 3 ∷ [])
two_calls = after_clear slice start (open_at One 5) log₁ [] one_call done (open_at One 14) log₂ 3 clears refl

three_calls : Run slice start (open_at One 143) log₃ (clear 3 ∷ updated ∷ [])
three_calls = after_update slice start (open_at One 14) log₂ (clear 3 ∷ []) two_calls done (open_at One 143) log₃ id words table 2 elided 9 updates refl

pub four_calls : Run slice start (open_at One 272) log₄ (clear 3 ∷ updated ∷ page_update id words page 9 ∷ [])
four_calls = after_page_update slice start (open_at One 143) log₃ (clear 3 ∷ updated ∷ []) three_calls done (open_at One 272) log₄ id words page 9 pages refl

-- and what they made reads back
pub four_read_back : (rule : AfterEnd) → read_log rule (take 4096 (finish_log log₄ (open_at One 272))) ≡ record { entries = clear 3 ∷ updated ∷ page_update id words page 9 ∷ []; at = 272; stop = given tt }
unfolding records_of record_of flat block slots_below marked digit
four_read_back rule =
    reads_back slice start (open_at One 272) log₄ (clear 3 ∷ updated ∷ page_update id words page 9 ∷ []) four_calls (Ok 4096) (Finished 4096) (finish_log log₄ (open_at One 272)) finishes rule
