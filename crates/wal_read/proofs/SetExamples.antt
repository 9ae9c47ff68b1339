-- Readers that meet what `Readers` asks: at the end of a log, at an end that a byte follows, and set on a log without a start. Assumes nothing.
use mathlib.Core.Path.{◌≡◌, refl}
use mathlib.Core.Bool.{true}
use mathlib.Core.List.{List, [], ◌∷◌, ◌++◌}
use Prim.Native.Nat.{ℕ, ◌+◌}
use lib.ListN.{set, replicate}
use denote.Ref.{Bor}
use Rattle.std.specs.Prelude.{Result, Ok, Err}
use Rattle.answers.specs.Answers.{answer_of}
use Rattle.answers.specs.Refusals.{number_of}
use Rattle.answers.specs.declared.Refusal.{Refusal}
use Rattle.answers.specs.declared.Refusal.TheVariants.{NoStart, AfterEndUsed}
use Rattle.blocks.specs.Blocks.{block, all_zero}
use Rattle.page_diff.specs.Pack.{packed_by}
use Rattle.wal.specs.Log.{mark_size, edition_one, start_record, end_record}
use Rattle.wal.specs.Reader.{ended, stopped, start_in, next_at, wanted}
use Rattle.wal.specs.declared.AfterEnd.{AfterEnd}
use Rattle.wal.specs.declared.AfterEnd.TheVariants.{Zeros, Tolerant}
use Rattle.wal.specs.declared.Edition.TheVariants.{One}
use Rattle.wal_read.specs.InnerEntry.{Bare}
use Rattle.wal_read.specs.Set.{gives_at, SetOn, as_tolerant, Reads}
use Rattle.wal_read.specs.declared.What.{What}
use Rattle.wal_read.specs.declared.What.TheVariants as what
use Rattle.wal_read.specs.declared.WalEntry.{WalEntry}
use Rattle.wal_read.specs.declared.WalBlobReader.{WalBlobReader}
use Rattle.wal_read.proofs.Answered.{bare_end, bare_stop}

-- a log that is lent somewhere
abbrev lent : List ℕ → Bor (List ℕ)
lent log = record { ref_ptr = (0, 0); now = log }

-- an entry that is no update
abbrev bare : Result What Refusal → WalEntry
bare w = record { what = w; id = replicate 32 0; diff = record { words = 0 ∷ 0 ∷ [] }; packed = packed_by (replicate 126 (replicate 32 0)) 0; elided = replicate 8 0; next = 5 }

bare_is : (w : Result What Refusal) → Bare w 5 (bare w)
bare_is w = record { what_is = refl; id_is = refl; diff_is = refl; packed_is = refl; elided_is = refl; next_is = refl }

abbrev reader : AfterEnd → List ℕ → Result ℕ Refusal → WalBlobReader
reader rule log n = record { log = lent log; at = 5; start = n; rule = rule }

-- it answers end, or a refusal, by what stands there, and stays
ends_there : (rule : AfterEnd) (log : List ℕ) (n : Result ℕ Refusal) → gives_at rule (answer_of n) log 5 ≡ ended → Reads (reader rule log n) (bare (Ok what.End)) (reader rule log n)
ends_there rule log n h =
    record { entry_is = bare_end 5 (bare (Ok what.End)) (gives_at rule (answer_of n) log 5) h (bare_is (Ok what.End)); log_stays = refl; at_moves = refl; start_stays = refl; rule_stays = refl }

refuses_there : (rule : AfterEnd) (log : List ℕ) (n : Result ℕ Refusal) (why : Refusal) → gives_at rule (answer_of n) log 5 ≡ stopped (number_of why) → Reads (reader rule log n) (bare (Err why)) (reader rule log n)
refuses_there rule log n why h =
    record { entry_is = bare_stop 5 (bare (Err why)) (gives_at rule (answer_of n) log 5) why h (bare_is (Err why)); log_stays = refl; at_moves = refl; start_stays = refl; rule_stays = refl }

-- sync 7 and no entry: set, it stands at the end, and is there again, by both rules, as zeros follow
abbrev empty : List ℕ
empty = start_record (edition_one 7) ++ end_record One 5

set_at_end : SetOn Zeros (lent empty) (reader Zeros empty (Ok 7))
unfolding block start_in
set_at_end = record { log_is = refl; at_is = refl; start_is = refl; rule_is = refl }

zeros_follow : wanted Zeros empty (5 + mark_size One) ≡ true
unfolding all_zero
zeros_follow = refl

read_at_end : (rule : AfterEnd) → Reads (reader rule empty (Ok 7)) (bare (Ok what.End)) (reader rule empty (Ok 7))
unfolding next_at all_zero
read_at_end Zeros = ends_there Zeros empty (Ok 7) refl
read_at_end Tolerant = ends_there Tolerant empty (Ok 7) refl

-- the same log with the byte right after end set: 27, and it stays; its tolerant reader is at end
abbrev used : List ℕ
used = set empty 6 1

set_at_27 : SetOn Zeros (lent used) (reader Zeros used (Ok 7))
unfolding block start_in
set_at_27 = record { log_is = refl; at_is = refl; start_is = refl; rule_is = refl }

read_at_27 : Reads (reader Zeros used (Ok 7)) (bare (Err AfterEndUsed)) (reader Zeros used (Ok 7))
unfolding next_at all_zero
read_at_27 = refuses_there Zeros used (Ok 7) AfterEndUsed refl

tolerant_at_27 : Reads (as_tolerant (reader Zeros used (Ok 7))) (bare (Ok what.End)) (as_tolerant (reader Zeros used (Ok 7)))
unfolding next_at
tolerant_at_27 = ends_there Tolerant used (Ok 7) refl

-- no start: refused when set, and so at each call
abbrev zeros : List ℕ
zeros = replicate 4096 0

set_refused : SetOn Zeros (lent zeros) (reader Zeros zeros (Err NoStart))
unfolding start_in
set_refused = record { log_is = refl; at_is = refl; start_is = refl; rule_is = refl }

read_refused : Reads (reader Zeros zeros (Err NoStart)) (bare (Err NoStart)) (reader Zeros zeros (Err NoStart))
read_refused = refuses_there Zeros zeros (Err NoStart) NoStart refl
