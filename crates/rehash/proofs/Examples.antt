-- 01, 'Growth': what the marker's calls, the pending decision and the copy answer, each answer and each refusal, in
-- literals. Assumes nothing.
use mathlib.Core.Path.{◌≡◌, refl}
use mathlib.Core.List.{List, [], ◌∷◌, ◌++◌, map}
use Prim.Native.Nat.{ℕ, ◌+◌, ◌^◌}
use lib.ListN.{take, replicate}
use Rattle.std.specs.Prelude.{Ok, Err}
use Rattle.answers.specs.Answers.{given, refused}
use Rattle.answers.specs.declared.Refusal.TheVariants.{MarkerLength, MarkerMagic, MarkerOrder, NothingPending, WouldShrink}
use Rattle.probe.specs.Path.{hit_limit}
use Rattle.rehash.specs.Marker.{Counts, marker, write_answer, written_marker, read_answer, marker_said}
use Rattle.rehash.specs.Pending.{tidy, update_meta_then_tidy, pending_answer, decision_said}
use Rattle.rehash.specs.Growth.{grown_to, done, nothing_to_do, growth_answer, growth_image, grown_said}
use Rattle.rehash.specs.declared.Decision.TheVariants as decision
use Rattle.rehash.specs.declared.Grown.TheVariants as grown

-- a marker whose counts have all their bytes; written, and none written; "writing: 17"
pub written : (written_marker 0x04030201 0x08070605 ∷ written_marker 9 8 ∷ []
    ≡ (0x4E ∷ 0x4F ∷ 0x4D ∷ 0x54 ∷ 0x52 ∷ 0x48 ∷ 0x31 ∷ 0x00 ∷ 0x01 ∷ 0x02 ∷ 0x03 ∷ 0x04 ∷ 0x05 ∷ 0x06 ∷ 0x07 ∷ 0x08 ∷ []) ∷ replicate 16 0 ∷ [])
    × (write_answer 0 1 ∷ write_answer 1 1 ∷ write_answer 9 8 ∷ [] ≡ given tt ∷ refused 17 ∷ refused 17 ∷ [])
written = (refl, refl)

abbrev counts : ℕ → ℕ → Counts
counts o n = record { old = o; new = n }

-- "Marker reading: 15, 16, 17": one byte less, one byte more, another first byte, 8 to 8, 8 to 4
pub read_back : map read_answer (marker 0x04030201 0x08070605 ∷ take 15 (marker 4 8) ∷ (marker 4 8 ++ (0 ∷ [])) ∷ (0x4F ∷ replicate 15 0) ∷ marker 8 8 ∷ marker 8 4 ∷ [])
    ≡ given (counts 0x04030201 0x08070605) ∷ refused 15 ∷ refused 15 ∷ refused 16 ∷ refused 17 ∷ refused 17 ∷ []
unfolding read_answer
read_back = refl

-- "new, new: tidy; old, new: update meta, then tidy; old, old: tidy. Old 0 is allowed here"; "1 for any of the three
-- counts above the limit, 17, 18"
pub pendings : (pending_answer 1 3 3 16384 ∷ pending_answer 1 3 1 16384 ∷ pending_answer 1 3 1 8192 ∷ pending_answer 0 1 0 8192 ∷ pending_answer 0 1 0 0 ∷ [])
    ∷ (pending_answer 1048577 1 1 0 ∷ pending_answer 1 1048577 1 0 ∷ pending_answer 1 1 1048577 0 ∷ pending_answer 3 3 3 16384 ∷ pending_answer 3 1 3 16384 ∷ [])
    ∷ (pending_answer 1 3 3 8192 ∷ pending_answer 1 3 2 16384 ∷ pending_answer 1 3 1 12288 ∷ []) ∷ []
    ≡ (given tidy ∷ given update_meta_then_tidy ∷ given tidy ∷ given update_meta_then_tidy ∷ given tidy ∷ [])
    ∷ (refused 1 ∷ refused 1 ∷ refused 1 ∷ refused 17 ∷ refused 17 ∷ []) ∷ (refused 18 ∷ refused 18 ∷ refused 18 ∷ []) ∷ []
pendings = refl

-- an image of one bucket with this tag and a page of 5s; what a table of two buckets becomes of the page with hash 1
abbrev one_old : ℕ → List ℕ
one_old t = t ∷ (replicate 4095 0 ++ replicate 4096 5)

abbrev two_new : List ℕ
two_new = replicate 12288 6

abbrev two_grown : List ℕ
two_grown = 0x00 ∷ 0x80 ∷ (replicate 8190 0 ++ replicate 4096 5)

-- 1 for either count, 19, nothing to do, 2 for either image and the hashes; a full bucket and an empty one
pub growths : map (λ (ns : ℕ × ℕ). growth_answer hit_limit (one_old 0x80) ns.0 two_new ns.1 (1 ∷ [])) ((0, 2) ∷ (1, 0) ∷ (1048577, 2) ∷ (1, 1048577) ∷ (2, 1) ∷ (1, 1) ∷ (1, 2) ∷ [])
    ∷ (growth_answer hit_limit two_new 1 two_new 2 (1 ∷ []) ∷ growth_answer hit_limit (one_old 0x80) 1 (one_old 0x80) 2 (1 ∷ []) ∷ growth_answer hit_limit (one_old 0x80) 1 two_new 2 [] ∷ []) ∷ []
    ≡ (refused 1 ∷ refused 1 ∷ refused 1 ∷ refused 1 ∷ refused 19 ∷ given nothing_to_do ∷ given done ∷ []) ∷ (refused 2 ∷ refused 2 ∷ refused 2 ∷ []) ∷ []
unfolding grown_to
growths = refl

pub images : growth_image hit_limit (one_old 0x80) 1 two_new 2 (1 ∷ []) ∷ growth_image hit_limit (one_old 0x7F) 1 two_new 2 (1 ∷ []) ∷ growth_image hit_limit (one_old 0x80) 1 two_new 2 [] ∷ []
    ≡ two_grown ∷ replicate 12288 0 ∷ two_new ∷ []
unfolding grown_to
images = refl

-- four full buckets into five, where the path of each hash is 0 1 3 for ever: the fourth finds none; its tag is there
-- or not
abbrev four_old : List ℕ
four_old = 0x80 ∷ 0x80 ∷ 0x80 ∷ 0x80 ∷ replicate 20476 5

abbrev five_new : List ℕ
five_new = replicate 24576 6

pub crowded : growth_answer hit_limit four_old 4 five_new 5 (0 ∷ 0 ∷ 0 ∷ 0 ∷ []) ∷ growth_answer hit_limit four_old 4 five_new 5 (0 ∷ 0 ∷ 0 ∷ (2 ^ 57 + 3) ∷ []) ∷ [] ≡ refused 10 ∷ refused 11 ∷ []
unfolding grown_to
crowded = refl

-- "growth refused with 10 or 11 leaves the new image all zero"
pub crowded_zero : growth_image hit_limit four_old 4 five_new 5 (0 ∷ 0 ∷ 0 ∷ 0 ∷ []) ≡ replicate 24576 0
unfolding grown_to
crowded_zero = refl

-- each case of the code's answers
pub said : (map marker_said (Ok (record { old = 4; new = 8 }) ∷ Err MarkerLength ∷ Err MarkerMagic ∷ Err MarkerOrder ∷ []) ≡ given (counts 4 8) ∷ refused 15 ∷ refused 16 ∷ refused 17 ∷ [])
    × (map decision_said (Ok decision.Tidy ∷ Ok decision.UpdateMetaThenTidy ∷ Err NothingPending ∷ []) ≡ given tidy ∷ given update_meta_then_tidy ∷ refused 18 ∷ [])
    × (map grown_said (Ok grown.Done ∷ Ok grown.NothingToDo ∷ Err WouldShrink ∷ []) ≡ given done ∷ given nothing_to_do ∷ refused 19 ∷ [])
said = (refl, refl, refl)
