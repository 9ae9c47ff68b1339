-- 01, 'Path': what probing on, lookup and allocation answer, each answer and each refusal, in literals; and a table on
-- which a page is stored and found. Assumes nothing.
use mathlib.Core.Path.{◌≡◌, refl}
use mathlib.Core.Bool.{true, false}
use mathlib.Core.List.{List, [], ◌∷◌, ◌++◌, map}
use Prim.Native.Nat.{ℕ, zero, suc, ◌^◌, ◌<◌}
use native.Mathlib.Omega.{arith}
use lib.ListN.{get_or, replicate}
use Rattle.std.specs.Prelude.{None, Some, Ok, Err}
use Rattle.answers.specs.Answers.{Answer, given, refused, answer_of}
use Rattle.answers.specs.declared.Refusal.TheVariants.{TableUnfit, PathCrowded, PathClosed}
use Rattle.probe.specs.Path.{Limit, hit_limit, allows, allocating, probing, looking_up, empty_at, tombstone_at, hit_at, closed, page_end, probe_answer, allocate_answer, allocated_tags, lookup_answer, found_at, absent, unreached, probed_said, found_said}
use Rattle.probe.specs.declared.Probed.TheVariants as probed
use Rattle.probe.specs.declared.Found.TheVariants as found
use Rattle.probe.proofs.Promises.{HasPage, found_after_allocation}

-- a page of tags that begins with these
abbrev tags2 : ℕ → ℕ → List ℕ
tags2 a b = a ∷ b ∷ replicate 4094 0

abbrev tags3 : ℕ → ℕ → ℕ → List ℕ
tags3 a b c = a ∷ b ∷ c ∷ replicate 4093 0

-- "(hash + k(k+1)/2) mod n": hash 9 in six buckets that are all hits
abbrev hits6 : List ℕ
hits6 = replicate 6 0x80 ++ replicate 4090 0

pub path : map (probe_answer hits6 6 9) (0 ∷ 1 ∷ 2 ∷ 3 ∷ 4 ∷ 5 ∷ [])
    ≡ given (hit_at 3 0) ∷ given (hit_at 4 1) ∷ given (hit_at 0 2) ∷ given (hit_at 3 3) ∷ given (hit_at 1 4) ∷ given (hit_at 0 5) ∷ []
unfolding probing
path = refl

-- hash 0 in two buckets: from visit 0 on; from visit 1 on, where "the path goes 1, 1, 0"; visit 5 taken mod 4; and
-- another table's tags
pub probes : probe_answer (tags2 0x00 0x80) 2 0 0 ∷ probe_answer (tags2 0x7F 0x80) 2 0 0 ∷ probe_answer (tags2 0x80 0x00) 2 0 0 ∷ probe_answer (tags2 0x01 0x81) 2 0 0
    ∷ probe_answer (tags2 0x00 0x01) 2 0 1 ∷ probe_answer (tags2 0x80 0x01) 2 0 1 ∷ probe_answer (tags2 0x7F 0x01) 2 0 5 ∷ probe_answer (tags2 0x00 0x80) 4097 0 0 ∷ []
    ≡ given (empty_at 0 0) ∷ given (tombstone_at 0 0) ∷ given (hit_at 0 0) ∷ given closed
    ∷ given (empty_at 0 3) ∷ given (hit_at 0 3) ∷ given (tombstone_at 0 3) ∷ refused 1 ∷ []
unfolding probing
probes = refl

-- hash 2^57, whose tag is 81, in three buckets: its path is 2 0 2 2 0 2, and bucket 1 is never met; hits up to the limit,
-- and one more
abbrev allocate3 : Limit → ℕ → ℕ → ℕ → Answer ℕ
allocate3 limit a b c = allocate_answer limit (tags3 a b c) 3 (2 ^ 57)

pub allocations : (allocate3 hit_limit 0x81 0x81 0x00 ∷ allocate3 hit_limit 0x7F 0x81 0x81 ∷ allocate3 hit_limit 0x80 0x00 0x81 ∷ allocate3 hit_limit 0x80 0x00 0x01 ∷ [])
    ∷ (allocate3 (Some 1) 0x00 0x00 0x81 ∷ allocate3 (Some 0) 0x00 0x00 0x81 ∷ allocate_answer hit_limit (tags3 0x00 0x00 0x00) 0 0 ∷ [])
    ∷ (allocate3 None 0x00 0x00 0x81 ∷ allocate3 None 0x80 0x00 0x81 ∷ allocate3 None 0x80 0x00 0x01 ∷ []) ∷ []
    ≡ (given 2 ∷ given 0 ∷ refused 10 ∷ refused 11 ∷ []) ∷ (given 0 ∷ refused 10 ∷ refused 1 ∷ [])
    ∷ (given 0 ∷ refused 11 ∷ refused 11 ∷ []) ∷ []
unfolding allocating
allocations = refl

-- 01's limit: 9,998 hits are let through, and one more is not
pub limit_of_01 : map (allows hit_limit) (0 ∷ 9998 ∷ 9999 ∷ []) ∷ map (allows None) (0 ∷ 9999 ∷ []) ∷ [] ≡ (true ∷ true ∷ false ∷ []) ∷ (true ∷ true ∷ []) ∷ []
limit_of_01 = refl

-- the tags afterwards
pub allocated_tags_lem : allocated_tags hit_limit (tags3 0x81 0x7F 0x00) 3 0 ∷ allocated_tags hit_limit (tags3 0x80 0x81 0x00) 3 0 ∷ [] ≡ tags3 0x81 0x80 0x00 ∷ tags3 0x80 0x81 0x00 ∷ []
unfolding allocating
allocated_tags_lem = refl

-- an image of one bucket with this tag, whose page ends in the id 8, 7 .. 7, with 9s for the elided bytes before it
abbrev image1 : ℕ → List ℕ
image1 t = t ∷ (replicate 8151 0 ++ (replicate 8 9 ++ (8 ∷ replicate 31 7)))

abbrev id1 : List ℕ
id1 = 8 ∷ replicate 31 7

pub page_end_lem : page_end (image1 0x80) 1 0 ≡ id1
page_end_lem = refl

pub lookups : lookup_answer (image1 0x80) 1 0 id1 ∷ lookup_answer (image1 0x80) 1 0 (replicate 32 7) ∷ lookup_answer (image1 0x7F) 1 0 id1 ∷ lookup_answer (image1 0x81) 1 0 id1
    ∷ lookup_answer (image1 0x00) 1 0 id1 ∷ lookup_answer (image1 0x80) 2 0 id1 ∷ []
    ≡ given (found_at 0) ∷ given unreached ∷ given unreached ∷ given unreached ∷ given absent ∷ refused 1 ∷ []
unfolding looking_up
lookups = refl

-- each case of the code's answers
pub said : (map probed_said (Ok (probed.Empty 1 2) ∷ Ok (probed.Tombstone 3 4) ∷ Ok (probed.PossibleHit 5 6) ∷ Ok probed.Closed ∷ Err TableUnfit ∷ [])
    ≡ given (empty_at 1 2) ∷ given (tombstone_at 3 4) ∷ given (hit_at 5 6) ∷ given closed ∷ refused 1 ∷ [])
    × (map found_said (Ok (found.At 1) ∷ Ok found.Absent ∷ Ok found.Closed ∷ Err TableUnfit ∷ []) ≡ given (found_at 1) ∷ given absent ∷ given unreached ∷ refused 1 ∷ [])
    × (map (answer_of {A = ℕ}) (Ok 1 ∷ Err PathCrowded ∷ Err PathClosed ∷ []) ≡ given 1 ∷ refused 10 ∷ refused 11 ∷ [])
said = (refl, refl, refl)

-- a table that meets every premise of `found_after_allocation`: n=3, hash 0, tags 81 7F 00, of which bucket 1 is given;
-- then its image, all pages zero, in which bucket 1 alone has the tag 80
abbrev three_tags : List ℕ
three_tags = 0x81 ∷ 0x7F ∷ 0x00 ∷ replicate 4093 0

abbrev three_image : List ℕ
three_image = 0x81 ∷ 0x80 ∷ 0x00 ∷ replicate 16381 0

abbrev no_id : List ℕ
no_id = replicate 32 0

pub stored_found : lookup_answer three_image 3 0 no_id ≡ given (found_at 1)
unfolding allocating
stored_found = found_after_allocation hit_limit three_tags 3 0 1 refl three_image no_id refl written refl only
  where
    written : (i : ℕ) → i < 3 → get_or three_image i 0 ≡ get_or (allocated_tags hit_limit three_tags 3 0) i 0
    written zero l = refl
    written (suc zero) l = refl
    written (suc (suc zero)) l = refl
    written (suc (suc (suc i))) l = absurd (omega arith)

    only : (c : ℕ) → c < 3 → HasPage three_image 3 0 no_id c → c ≡ 1
    only zero l (t, e) = let z : ◌≡◌ {A = ℕ} 0x81 0x80 = t in absurd (omega arith)
    only (suc zero) l p = refl
    only (suc (suc zero)) l (t, e) = let z : ◌≡◌ {A = ℕ} 0 0x80 = t in absurd (omega arith)
    only (suc (suc (suc c))) l p = absurd (omega arith)
