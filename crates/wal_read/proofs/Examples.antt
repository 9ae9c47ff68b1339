-- 01, 'Reader', and 02, W-208: what stands at a position of a log of literal bytes, its head and each of its fields, each refusal with
-- its number. Assumes nothing.
use mathlib.Core.Path.{◌≡◌, refl}
use mathlib.Core.List.{List, [], ◌∷◌, ◌++◌, map}
use Prim.Native.Nat.{◌^◌}
use lib.ListN.{take, set, replicate}
use Rattle.std.specs.Prelude.{Ok, Err}
use Rattle.answers.specs.Answers.{given, refused}
use Rattle.answers.specs.declared.Refusal.TheVariants.{LogCut, TagUnknown, AfterEndUsed}
use Rattle.blocks.specs.Blocks.{block, all_zero}
use Rattle.page_diff.specs.Diff.{marked, slots_below}
use Rattle.page_diff.specs.Pack.{packed_by}
use Rattle.page_diff.specs.declared.Packed.{Packed}
use Rattle.wal.specs.Log.{clear}
use Rattle.wal.specs.Reader.{Next, next, stopped, next_at, next_by}
use Rattle.wal.specs.declared.AfterEnd.{AfterEnd}
use Rattle.wal.specs.declared.AfterEnd.TheVariants.{Zeros, Tolerant}
use Rattle.wal.specs.declared.Edition.TheVariants.{One, Two}
use Rattle.wal.proofs.Examples.{log, log_two_lem, to_diff}
use Rattle.wal_read.specs.Head.{a_clear, an_update, the_end, a_refusal, head_of, head_said}
use Rattle.wal_read.specs.Entry.{clears, updates, ends, refuses, what_of, what_said, id_of, diff_of, elided_of, rows, packed_of, next_of, Taken}
use Rattle.wal_read.specs.Set.{gives_at}
use Rattle.wal_read.specs.declared.Head.TheVariants as head
use Rattle.wal_read.specs.declared.What.TheVariants as what
use Rattle.wal_read.specs.declared.WalEntry.{WalEntry}

-- the clear at 5, the update at 14, the end at 143, a start where an entry should be; nothing left; a clear and an
-- update cut short, reserved bits
abbrev nexts : List Next
nexts = map (next_at One log) (5 ∷ 14 ∷ 143 ∷ 0 ∷ 4096 ∷ []) ++ map (λ l. next_at One l 0) ((3 ∷ replicate 7 0) ∷ take 48 (to_diff 0x40) ∷ to_diff 0x40 ∷ to_diff 0x80 ∷ to_diff 0x20 ∷ [])

pub heads : map head_of nexts ≡ a_clear 3 14 ∷ an_update 9 2 143 ∷ the_end ∷ a_refusal 8 ∷ a_refusal 6 ∷ a_refusal 6 ∷ a_refusal 6 ∷ a_refusal 4 ∷ a_refusal 4 ∷ a_refusal 6 ∷ []
unfolding next_at block marked slots_below
heads = refl

pub whats : map what_of nexts ≡ clears 3 ∷ updates 9 ∷ ends ∷ refuses 8 ∷ refuses 6 ∷ refuses 6 ∷ refuses 6 ∷ refuses 4 ∷ refuses 4 ∷ refuses 6 ∷ []
unfolding next_at block marked slots_below
whats = refl

-- of the clear, the update, the end and the first refusal: the fields, and where the reading goes on from position 77
abbrev four : List Next
four = take 4 nexts

abbrev no_nodes : Packed
no_nodes = packed_by (replicate 126 (replicate 32 0)) 0

abbrev two_nodes : Packed
two_nodes = packed_by (replicate 32 2 ∷ replicate 32 3 ∷ replicate 124 (replicate 32 0)) 2

pub fields : (map id_of four ∷ map diff_of four ∷ map elided_of four ∷ [] ≡ (replicate 32 0 ∷ replicate 32 1 ∷ replicate 32 0 ∷ replicate 32 0 ∷ [])
    ∷ ((0 ∷ 0 ∷ []) ∷ (1 ∷ (2 ^ 61) ∷ []) ∷ (0 ∷ 0 ∷ []) ∷ (0 ∷ 0 ∷ []) ∷ [])
    ∷ (replicate 8 0 ∷ replicate 8 4 ∷ replicate 8 0 ∷ replicate 8 0 ∷ []) ∷ [])
    × (map packed_of four ≡ no_nodes ∷ two_nodes ∷ no_nodes ∷ no_nodes ∷ [])
    × (map (λ n. next_of n 77) four ≡ 14 ∷ 143 ∷ 77 ∷ 77 ∷ [])
unfolding next_at block marked slots_below rows
fields = (refl, refl, refl)

-- the whole entry that a call answers at 14
abbrev answered : WalEntry
answered = record { what = Ok (what.Update 9); id = replicate 32 1; diff = record { words = 1 ∷ (2 ^ 61) ∷ [] }; packed = two_nodes; elided = replicate 8 4; next = 143 }

pub taken : Taken (next_at One log 14) 14 answered
unfolding next_at block marked slots_below rows
taken = record { what_is = refl; id_is = refl; diff_is = refl; packed_is = refl; elided_is = refl; next_is = refl }

-- what a reader gives, by what its start answered: the entry, or the start's refusal
pub given_at : gives_at Zeros (given 7) log 5 ∷ gives_at Zeros (given 7) log_two_lem 22 ∷ gives_at Zeros (refused 7) log 5 ∷ [] ≡ next (clear 3) 14 ∷ next (clear 3) 32 ∷ stopped 7 ∷ []
unfolding next_at block all_zero
given_at = refl

-- the last byte of each log set: 27 in place of end, for the head and the entry, with the position kept; end by the former rule. An entry before is the same
abbrev afters : AfterEnd → List Next
afters rule = next_by rule One (set log 4095 1) 143 ∷ next_by rule Two (set log_two_lem 4095 1) 32 ∷ next_by rule One (set log 4095 1) 5 ∷ []

pub after_end_lem : (map head_of (afters Zeros ++ afters Tolerant) ≡ a_refusal 27 ∷ a_refusal 27 ∷ a_clear 3 14 ∷ the_end ∷ the_end ∷ a_clear 3 14 ∷ [])
    × (map what_of (afters Zeros ++ afters Tolerant) ≡ refuses 27 ∷ refuses 27 ∷ clears 3 ∷ ends ∷ ends ∷ clears 3 ∷ [])
    × (map (λ n. next_of n 77) (afters Zeros) ≡ 77 ∷ 77 ∷ 14 ∷ [])
unfolding next_at block all_zero
after_end_lem = (refl, refl, refl)

-- each case of the code's answers
pub said : (map head_said (Ok (head.Clear 3 14) ∷ Ok (head.Update 9 2 143) ∷ Ok head.End ∷ Err TagUnknown ∷ []) ≡ a_clear 3 14 ∷ an_update 9 2 143 ∷ the_end ∷ a_refusal 8 ∷ [])
    × (map what_said (Ok (what.Clear 3) ∷ Ok (what.Update 9) ∷ Ok what.End ∷ Err LogCut ∷ Err AfterEndUsed ∷ []) ≡ clears 3 ∷ updates 9 ∷ ends ∷ refuses 6 ∷ refuses 27 ∷ [])
said = (refl, refl)

-- of a log of edition two: the clear at 22, the end at 32; a start later, a bare tag and 0xB2 with no known tag are 8; 0xB2 as the last byte is 6
pub heads_two : map (λ p. head_of (next_at Two log_two_lem p)) (22 ∷ 32 ∷ 0 ∷ 23 ∷ []) ∷ map (λ l. head_of (next_at Two l 0)) ((0xB2 ∷ 9 ∷ []) ∷ (0xB2 ∷ []) ∷ (4 ∷ []) ∷ []) ∷ []
    ≡ (a_clear 3 32 ∷ the_end ∷ a_refusal 8 ∷ a_refusal 8 ∷ []) ∷ (a_refusal 8 ∷ a_refusal 6 ∷ a_refusal 8 ∷ []) ∷ []
unfolding next_at block marked slots_below
heads_two = refl
