-- 01, 'Checked by hand': every example marked p, as one statement over a list of them, each about the definition in a
-- call's promise. What a call says is written in numbers: its refusal's; or 0, and then its values. All computes but the
-- 454 clears and the replayed images, which go by the laws of their parts. Assumes nothing.
use mathlib.Core.Path.{◌≡◌, refl, ap, ap₂}
use mathlib.Core.Bool.{Bool}
use mathlib.Core.List.{List, [], ◌∷◌, ◌++◌, map}
use Prim.Native.Nat.{ℕ, ◌-◌, ◌^◌}
use lib.ListN.{replicate}
use Rattle.answers.specs.Answers.{Answer, given, refused}
use Rattle.meta_map.specs.Tags.{full_tag, one}
use Rattle.page_diff.specs.Diff.{marked, slots_below, count_of, first_slot, read_answer, read_words}
use Rattle.probe.specs.Path.{Probe, empty_at, tombstone_at, hit_at, closed, probing, probe_answer, hit_limit, allocating, allocate_answer}
use Rattle.recover.specs.Replay.{Did, nothing, stale, applied}
use Rattle.recover.proofs.Examples.{cleared_under, replays}
use Rattle.rehash.specs.Marker.{write_answer, written_marker}
use Rattle.wal.specs.Log.{edition_one}
use Rattle.wal.specs.declared.Writer.TheVariants.{Fresh}
use Rattle.wal_write.proofs.Examples.{At, begun, all_cleared, next_clear, all_taken, clears_by_hand}

abbrev say : {A : Type 0} → (A → List ℕ) → Answer A → List ℕ
say f (given a) = 0 ∷ f a
say f (refused k) = k ∷ []

-- "diff byte 15 = 0x20, others 0: slot 125, count 1; 0x40 or 0x80: 4": reading the bytes; the diff's first slot and count
abbrev reading : ℕ → List ℕ
reading b =
    let bytes = replicate 15 0 ++ (b ∷ []) in
    say (λ u. first_slot (read_words bytes) ∷ count_of (read_words bytes) ∷ []) (read_answer bytes)

-- "n=8, hash 8: path 0 1 3 6 2 7 5 4"; "n=5, hash 5: 0 1 3 1 0": probing from visit k on where every tag is a hit comes
-- to visit k's bucket
abbrev met : Probe → List ℕ
met (empty_at b k) = []
met (tombstone_at b k) = []
met (hit_at b k) = b ∷ []
met closed = []

abbrev visited : ℕ → ℕ → ℕ → List ℕ
visited n hash k = say met (probe_answer (replicate n 0x80 ++ replicate (4096 - n) 0) n hash k)

-- "n=3, hash 0, tags 81 81 00: 11"; "80 81 00: 10"; "81 7F 00: bucket 1"
abbrev allocated : ℕ → ℕ → ℕ → List ℕ
allocated a b c = say (λ bucket. bucket ∷ []) (allocate_answer hit_limit (a ∷ b ∷ c ∷ replicate 4093 0) 3 0)

-- "marker 4 to 8: 4E 4F 4D 54 52 48 31 00 04 00 00 00 08 00 00 00; 8 to 8: 17"
abbrev marked_by : ℕ → ℕ → List ℕ
marked_by old new = say (λ u. written_marker old new) (write_answer old new)

-- "capacity 4,096: 454 clears fit, the next is 13": that all are taken, and what the next one answers
abbrev started : At
started = begun (record { writer = Fresh; log = replicate 4096 0 }) (edition_one 7)

abbrev clears : List ℕ → List ℕ
clears buckets = one (all_taken started buckets) ∷ say (λ u. []) (next_clear (all_cleared started buckets))

-- "n=1, tag 0, log with sync 7 and clear 0: 0x7F under 7, stale under 8": the answer and the tag afterwards
abbrev did : Did → ℕ
did nothing = 0
did stale = 1
did applied = 2

abbrev told : Answer Did × ℕ → List ℕ
told p = say (λ d. did d ∷ []) p.0 ++ (p.1 ∷ [])

clears_told : clears (replicate 454 3) ≡ 1 ∷ 13 ∷ []
clears_told =
    let both = clears_by_hand (record { writer = Fresh; log = replicate 4096 0 }) 7 (replicate 454 3) refl refl in
    ap₂ (λ (t : Bool) (a : Answer (Unit {0})). one t ∷ say (λ u. []) a) both.0 both.1

-- the examples in 01's order
abbrev examples : List ℕ → List (List ℕ) → List (List (List ℕ))
examples cleared replayed =
    map reading (0x20 ∷ 0x40 ∷ 0x80 ∷ [])
    ∷ map (λ h. full_tag h ∷ []) (0 ∷ (2 ^ 57 - 1) ∷ (2 ^ 57) ∷ (2 ^ 64 - 1) ∷ [])
    ∷ map (visited 8 8) (0 ∷ 1 ∷ 2 ∷ 3 ∷ 4 ∷ 5 ∷ 6 ∷ 7 ∷ [])
    ∷ map (visited 5 5) (0 ∷ 1 ∷ 2 ∷ 3 ∷ 4 ∷ [])
    ∷ (allocated 0x81 0x81 0x00 ∷ allocated 0x80 0x81 0x00 ∷ allocated 0x81 0x7F 0x00 ∷ [])
    ∷ (marked_by 4 8 ∷ marked_by 8 8 ∷ [])
    ∷ (cleared ∷ [])
    ∷ replayed
    ∷ []

pub by_hand : examples (clears (replicate 454 3)) (map told (map (cleared_under (replicate 8192 0)) (7 ∷ 8 ∷ [])))
    ≡ ((0 ∷ 125 ∷ 1 ∷ []) ∷ (4 ∷ []) ∷ (4 ∷ []) ∷ [])
    ∷ ((0x80 ∷ []) ∷ (0x80 ∷ []) ∷ (0x81 ∷ []) ∷ (0xFF ∷ []) ∷ [])
    ∷ ((0 ∷ 0 ∷ []) ∷ (0 ∷ 1 ∷ []) ∷ (0 ∷ 3 ∷ []) ∷ (0 ∷ 6 ∷ []) ∷ (0 ∷ 2 ∷ []) ∷ (0 ∷ 7 ∷ []) ∷ (0 ∷ 5 ∷ []) ∷ (0 ∷ 4 ∷ []) ∷ [])
    ∷ ((0 ∷ 0 ∷ []) ∷ (0 ∷ 1 ∷ []) ∷ (0 ∷ 3 ∷ []) ∷ (0 ∷ 1 ∷ []) ∷ (0 ∷ 0 ∷ []) ∷ [])
    ∷ ((11 ∷ []) ∷ (10 ∷ []) ∷ (0 ∷ 1 ∷ []) ∷ [])
    ∷ ((0 ∷ 0x4E ∷ 0x4F ∷ 0x4D ∷ 0x54 ∷ 0x52 ∷ 0x48 ∷ 0x31 ∷ 0x00 ∷ 0x04 ∷ 0x00 ∷ 0x00 ∷ 0x00 ∷ 0x08 ∷ 0x00 ∷ 0x00 ∷ 0x00 ∷ []) ∷ (17 ∷ []) ∷ [])
    ∷ ((1 ∷ 13 ∷ []) ∷ [])
    ∷ ((0 ∷ 2 ∷ 0x7F ∷ []) ∷ (0 ∷ 1 ∷ 0x00 ∷ []) ∷ [])
    ∷ []
unfolding slots_below marked probing allocating
by_hand = ap₂ examples clears_told (ap (map told) replays)
