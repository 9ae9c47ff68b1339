-- Every case of every table in Words, on literals: the numbers that a caller in another language reads. Assumes nothing.
use mathlib.Core.Path.{◌≡◌, refl}
use mathlib.Core.Bool.{true, false}
use mathlib.Core.List.{[], ◌∷◌, map}
use lib.Ieee.{binary64}
use lib.Ieee as Ieee
use lib.ListN.{replicate}
use Rattle.answers.specs.Answers.{given, refused}
use Rattle.probe.specs.Path.{empty_at, tombstone_at, hit_at, closed, found_at, absent, unreached, hit_limit}
use Rattle.wal.specs.declared.Edition.TheVariants.{One, Two}
use Rattle.wal.specs.declared.Writer.TheVariants.{Fresh, Open, Finished}
use Rattle.wal_read.specs.Head.{a_clear, an_update, the_end, a_refusal}
use Rattle.wal_read.specs.Entry.{clears, updates, ends, refuses}
use Rattle.sync.specs.Sync.{said_done, said_refused, said_refused_at}
use Rattle.recover.specs.Replay.{nothing, stale, applied, cleared, updated, at_end}
use Rattle.rehash.specs.Pending.{tidy, update_meta_then_tidy}
use Rattle.rehash.specs.Growth.{done, nothing_to_do}
use Rattle.bitbox.specs.Words.{log_start_of, pair, outcome_words, number_words, truth_words, probe_words, lookup_words, entry_refusal, entry_kind, entry_bucket, head_words, writer_of, writer_words, written_words, finished_words, state_of, state_words, step_words, sync_words, replay_words, went_words, marker_words, left_words, growth_words, audit_words}

-- done, a number, whether something holds; replay; what is left of a growth; growth: the refusal and the value
pub answers : map outcome_words (given tt ∷ refused 9 ∷ []) ∷ map number_words (given 7 ∷ refused 9 ∷ []) ∷ map truth_words (given true ∷ given false ∷ refused 3 ∷ [])
    ∷ map replay_words (given nothing ∷ given stale ∷ given applied ∷ refused 8 ∷ []) ∷ map left_words (given tidy ∷ given update_meta_then_tidy ∷ refused 18 ∷ []) ∷ map growth_words (given nothing_to_do ∷ given done ∷ refused 19 ∷ []) ∷ []
    ≡ (record { refusal = 0; value = 0 } ∷ record { refusal = 9; value = 0 } ∷ []) ∷ (record { refusal = 0; value = 7 } ∷ record { refusal = 9; value = 0 } ∷ [])
    ∷ (record { refusal = 0; value = 1 } ∷ record { refusal = 0; value = 0 } ∷ record { refusal = 3; value = 0 } ∷ [])
    ∷ (record { refusal = 0; value = 0 } ∷ record { refusal = 0; value = 1 } ∷ record { refusal = 0; value = 2 } ∷ record { refusal = 8; value = 0 } ∷ [])
    ∷ (record { refusal = 0; value = 0 } ∷ record { refusal = 0; value = 1 } ∷ record { refusal = 18; value = 0 } ∷ [])
    ∷ (record { refusal = 0; value = 0 } ∷ record { refusal = 0; value = 1 } ∷ record { refusal = 19; value = 0 } ∷ []) ∷ []
answers = refl

-- probing and lookup
pub paths : (map probe_words (given (empty_at 5 6) ∷ given (tombstone_at 5 6) ∷ given (hit_at 5 6) ∷ given closed ∷ refused 1 ∷ [])
    ≡ record { refusal = 0; kind = 0; bucket = 5; visit = 6 } ∷ record { refusal = 0; kind = 1; bucket = 5; visit = 6 } ∷ record { refusal = 0; kind = 2; bucket = 5; visit = 6 }
    ∷ record { refusal = 0; kind = 3; bucket = 0; visit = 0 } ∷ record { refusal = 1; kind = 0; bucket = 0; visit = 0 } ∷ [])
    × (map lookup_words (given (found_at 5) ∷ given absent ∷ given unreached ∷ refused 1 ∷ [])
    ≡ record { refusal = 0; kind = 0; bucket = 5 } ∷ record { refusal = 0; kind = 1; bucket = 0 } ∷ record { refusal = 0; kind = 2; bucket = 0 } ∷ record { refusal = 1; kind = 0; bucket = 0 } ∷ [])
paths = (refl, refl)

-- an entry's numbers, its head, and a step of replay
pub entries : (map entry_refusal (ends ∷ clears 5 ∷ updates 6 ∷ refuses 8 ∷ []) ∷ map entry_kind (ends ∷ clears 5 ∷ updates 6 ∷ refuses 8 ∷ []) ∷ map entry_bucket (ends ∷ clears 5 ∷ updates 6 ∷ refuses 8 ∷ []) ∷ []
    ≡ (0 ∷ 0 ∷ 0 ∷ 8 ∷ []) ∷ (0 ∷ 1 ∷ 2 ∷ 0 ∷ []) ∷ (0 ∷ 5 ∷ 6 ∷ 0 ∷ []) ∷ [])
    × (map (λ e. head_words e 9) (the_end ∷ a_clear 5 14 ∷ an_update 6 2 143 ∷ a_refusal 8 ∷ [])
    ≡ record { refusal = 0; kind = 0; bucket = 0; count = 0; next = 9 } ∷ record { refusal = 0; kind = 1; bucket = 5; count = 0; next = 14 }
    ∷ record { refusal = 0; kind = 2; bucket = 6; count = 2; next = 143 } ∷ record { refusal = 8; kind = 0; bucket = 0; count = 0; next = 9 } ∷ [])
    × (map (λ a. went_words a 9) (given at_end ∷ given (cleared 14) ∷ given (updated 143) ∷ refused 9 ∷ [])
    ≡ record { refusal = 0; kind = 0; next = 9 } ∷ record { refusal = 0; kind = 1; next = 14 } ∷ record { refusal = 0; kind = 2; next = 143 } ∷ record { refusal = 9; kind = 0; next = 9 } ∷ [])
entries = (refl, refl, refl)

-- a writer's state, both ways, and what its calls answer
pub writers : (map writer_of (record { kind = 0; at = 5 } ∷ record { kind = 1; at = 5 } ∷ record { kind = 2; at = 4096 } ∷ record { kind = 3; at = 22 } ∷ record { kind = 4; at = 4096 } ∷ []) ≡ Fresh ∷ Open 5 One ∷ Finished 4096 ∷ Open 22 Two ∷ Finished 4096 ∷ [])
    × (map writer_words (Fresh ∷ Open 5 One ∷ Open 22 Two ∷ Finished 4096 ∷ []) ≡ record { kind = 0; at = 0 } ∷ record { kind = 1; at = 5 } ∷ record { kind = 3; at = 22 } ∷ record { kind = 2; at = 4096 } ∷ [])
    × (written_words (given tt) (Open 5 One) ∷ written_words (refused 13) Fresh ∷ finished_words (given 4096) (Finished 4096) ∷ finished_words (refused 12) Fresh ∷ []
    ≡ record { refusal = 0; length = 0; writer = record { kind = 1; at = 5 } } ∷ record { refusal = 13; length = 0; writer = record { kind = 0; at = 0 } }
    ∷ record { refusal = 0; length = 4096; writer = record { kind = 2; at = 4096 } } ∷ record { refusal = 12; length = 0; writer = record { kind = 0; at = 0 } } ∷ [])
writers = (refl, refl, refl)

-- what a log starts with
pub log_starts : log_start_of (record { sync = 7; edition = 2; seed = replicate 16 5 }) ≡ record { sync = 7; edition = Two; seed = replicate 16 5 }
log_starts = refl

-- a sync's state, both ways, a change and a whole sync
pub syncs : (state_of (record { n = 3; writer = record { kind = 1; at = 5 }; occupied = 2 }) ≡ record { n = 3; limit = hit_limit; writer = Open 5 One; occupied = 2 })
    × (state_words (record { n = 3; limit = hit_limit; writer = Open 5 One; occupied = 2 }) ≡ record { n = 3; writer = record { kind = 1; at = 5 }; occupied = 2 })
    × (map (λ a. step_words a (record { n = 3; writer = record { kind = 1; at = 5 }; occupied = 2 })) (given (1, 2) ∷ refused 14 ∷ [])
    ≡ record { refusal = 0; bucket = 1; page = 2; state = record { n = 3; writer = record { kind = 1; at = 5 }; occupied = 2 } }
    ∷ record { refusal = 14; bucket = 0; page = 0; state = record { n = 3; writer = record { kind = 1; at = 5 }; occupied = 2 } } ∷ [])
    × (map (λ s. sync_words s (record { kind = 2; at = 4096 })) (said_done 2 4096 ∷ said_refused 13 ∷ said_refused_at 1 14 ∷ [])
    ≡ record { refusal = 0; at_change = 0; change = 0; occupied = 2; length = 4096; writer = record { kind = 2; at = 4096 } }
    ∷ record { refusal = 13; at_change = 0; change = 0; occupied = 0; length = 0; writer = record { kind = 2; at = 4096 } }
    ∷ record { refusal = 14; at_change = 1; change = 1; occupied = 0; length = 0; writer = record { kind = 2; at = 4096 } } ∷ [])
syncs = (refl, refl, refl, refl)

-- a marker's counts, and an audit with the rate 0.5, by its bits; a refused one has 0.0
pub growth_and_audit : (map marker_words (given (record { old = 4; new = 8 }) ∷ refused 16 ∷ []) ≡ record { refusal = 0; old = 4; new = 8 } ∷ record { refusal = 16; old = 0; new = 0 } ∷ [])
    × (map audit_words (given (record { capacity = 2; occupied = 1; rate = Ieee.of_bits binary64 0x3FE0000000000000 }) ∷ refused 21 ∷ [])
    ≡ record { refusal = 0; capacity = 2; occupied = 1; rate = Ieee.of_bits binary64 0x3FE0000000000000 } ∷ record { refusal = 21; capacity = 0; occupied = 0; rate = Ieee.of_bits binary64 0 } ∷ [])
    × (pair 5 6 ≡ 5 ∷ 6 ∷ [])
unfolding Ieee.of_bits Ieee.of_int
growth_and_audit = (refl, refl, refl)
