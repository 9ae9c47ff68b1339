-- 01, 'Path': the visits of a hash, and what probing on, lookup and allocation answer. Assumes nothing.
use Rattle.std.specs.Prelude.{Bool, true, cond, Option, None, Some, Result, Ok, Err, ◌&&◌, ◌||◌, List, [], ◌∷◌, ℕ, zero, suc, ◌+◌, ◌*◌, ◌/◌, ◌%◌, leb, ltb, eqb, get_or, set, take, drop}
use Rattle.answers.specs.Answers.{Answer, given, refused, and_then}
use Rattle.answers.specs.Refusals.{number_of}
use Rattle.blocks.specs.Blocks.{same_bytes}
use Rattle.ht_file.specs.Places.{page_start, if_tags, if_image}
use Rattle.meta_map.specs.Tags.{empty, tombstone, kind_of, is_kind, full_tag, one}
use Rattle.answers.specs.declared.Refusal.{Refusal}
use Rattle.probe.specs.declared.Probed.{Probed}
use Rattle.probe.specs.declared.Found.{Found}
use Rattle.probe.specs.declared.Probed.TheVariants as probed
use Rattle.probe.specs.declared.Found.TheVariants as found

-- "visit k, from 0, is at (hash + k(k+1)/2) mod n"
unfoldable pub visit : ℕ → ℕ → ℕ → ℕ
visit n h k = (h + k * (k + 1) / 2) % n

-- the buckets of the m visits from visit k on
unfoldable pub visits : ℕ → ℕ → ℕ → ℕ → List ℕ
unfolding visit
visits n h k zero = []
visits n h k (suc m) = visit n h k ∷ visits n h (suc k) m

-- "It repeats after 2n visits": all that a walk from visit k on can meet
abbrev pub path_from : ℕ → ℕ → ℕ → List ℕ
path_from n h k = visits n h k (2 * n)

-- tests of a tag: "A visit is a hit if the tag there is the hash's full tag"
abbrev pub is_empty : ℕ → Bool
is_empty t = is_kind empty (kind_of t)

abbrev pub is_tombstone : ℕ → Bool
is_tombstone t = is_kind tombstone (kind_of t)

abbrev pub is_free : ℕ → Bool
is_free t = is_empty t || is_tombstone t

abbrev pub is_hit : ℕ → ℕ → Bool
is_hit h t = eqb t (full_tag h)

-- where a walk stops: a bucket and the number of its visit; or nowhere
pub data Stop : Type 0 where
  stop_at : ℕ → ℕ → Stop
  nowhere : Stop

-- the first of the visits whose bucket passes the test, where the first of all is visit k
unfoldable pub first_stop : (ℕ → Bool) → ℕ → List ℕ → Stop
first_stop p k [] = nowhere
first_stop p k (b ∷ bs) = cond (p b) (stop_at b k) (first_stop p (suc k) bs)

-- how many of the visits are hits; a bucket met twice counts twice
unfoldable pub hits : List ℕ → ℕ → List ℕ → ℕ
hits ts h [] = 0
hits ts h (b ∷ bs) = one (is_hit h (get_or ts b 0)) + hits ts h bs

-- "Probing on from visit k, taken mod 2n, gives the first empty, tombstone or hit among the 2n visits from there, else closed"
pub data Probe : Type 0 where
  empty_at tombstone_at hit_at : ℕ → ℕ → Probe
  closed : Probe

abbrev pub stops_probe : List ℕ → ℕ → ℕ → Bool
stops_probe ts h b = is_free (get_or ts b 0) || is_hit h (get_or ts b 0)

abbrev pub probe_saw : List ℕ → Stop → Probe
probe_saw ts (stop_at b k) =
    cond (is_empty (get_or ts b 0)) (empty_at b k) (cond (is_tombstone (get_or ts b 0)) (tombstone_at b k) (hit_at b k))
probe_saw ts nowhere = closed

unfoldable pub probing : List ℕ → ℕ → ℕ → ℕ → Probe
unfolding visits first_stop
probing ts n h k = probe_saw ts (first_stop (stops_probe ts h) (k % (2 * n)) (path_from n h (k % (2 * n))))

abbrev pub probe_answer : List ℕ → ℕ → ℕ → ℕ → Answer Probe
probe_answer ts n h k = if_tags ts n (given (probing ts n h k))

-- the last 32 bytes of a bucket's page
abbrev pub page_end : List ℕ → ℕ → ℕ → List ℕ
page_end img n b = take 32 (drop (page_start n b + 4064) img)

-- a hit whose page ends in the id
abbrev pub holds : List ℕ → ℕ → ℕ → List ℕ → ℕ → Bool
holds img n h id b = is_hit h (get_or img b 0) && same_bytes (page_end img n b) id

-- "Lookup answers the bucket of the first hit whose page ends in the id, if no empty visit precedes it; absent at an empty visit; closed if
-- 2n visits give neither"
pub data Sought : Type 0 where
  found_at : ℕ → Sought
  absent unreached : Sought

abbrev pub stops_lookup : List ℕ → ℕ → ℕ → List ℕ → ℕ → Bool
stops_lookup img n h id b = is_empty (get_or img b 0) || holds img n h id b

abbrev pub lookup_stop : List ℕ → ℕ → ℕ → List ℕ → Stop
lookup_stop img n h id = first_stop (stops_lookup img n h id) 0 (path_from n h 0)

-- the visit of the stop is dropped here
abbrev pub lookup_saw : List ℕ → Stop → Sought
lookup_saw img (stop_at b k) = cond (is_empty (get_or img b 0)) absent (found_at b)
lookup_saw img nowhere = unreached

unfoldable pub looking_up : List ℕ → ℕ → ℕ → List ℕ → Sought
unfolding visits first_stop same_bytes
looking_up img n h id = lookup_saw img (lookup_stop img n h id)

abbrev pub lookup_answer : List ℕ → ℕ → ℕ → List ℕ → Answer Sought
lookup_answer img n h id = if_image img n (given (looking_up img n h id))

-- the hits that may come before a bucket that is given: so many, or any number
abbrev pub Limit : Type 0
Limit = Option ℕ

-- "if at most 9,998 hits come before it"
abbrev pub hit_limit : Limit
hit_limit = Some 9998

abbrev pub allows : Limit → ℕ → Bool
allows (Some most) k = leb k most
allows None k = true

-- "Otherwise 10 if the path has a hit, 11 if it has none"; without a limit hits do not matter
abbrev pub no_bucket_by : Limit → ℕ → ℕ
no_bucket_by (Some most) k = cond (ltb 0 k) 10 11
no_bucket_by None k = 11

-- "Allocation takes the first visit that is empty or a tombstone"; the limit is the first argument
abbrev pub free_at : List ℕ → ℕ → Bool
free_at ts b = is_free (get_or ts b 0)

abbrev pub free_stop : List ℕ → ℕ → ℕ → Stop
free_stop ts n h = first_stop (free_at ts) 0 (path_from n h 0)

abbrev pub no_bucket : {A : Type 0} → Limit → List ℕ → ℕ → ℕ → Answer A
no_bucket limit ts n h = refused (no_bucket_by limit (hits ts h (path_from n h 0)))

-- the bucket that is given, with its visit
abbrev pub allocation_saw : Limit → List ℕ → ℕ → ℕ → Stop → Answer (ℕ × ℕ)
allocation_saw limit ts n h (stop_at b k) = cond (allows limit (hits ts h (visits n h 0 k))) (given (b, k)) (no_bucket limit ts n h)
allocation_saw limit ts n h nowhere = no_bucket limit ts n h

-- the visit is dropped here
unfoldable pub allocating : Limit → List ℕ → ℕ → ℕ → Answer ℕ
unfolding visits first_stop hits
allocating limit ts n h = and_then (allocation_saw limit ts n h (free_stop ts n h)) (λ v. given v.0)

abbrev pub allocate_answer : Limit → List ℕ → ℕ → ℕ → Answer ℕ
allocate_answer limit ts n h = if_tags ts n (allocating limit ts n h)

-- "and writes the full tag": the tags afterwards
abbrev pub tags_after : Answer ℕ → List ℕ → ℕ → List ℕ
tags_after (given b) ts h = set ts b (full_tag h)
tags_after (refused m) ts h = ts

abbrev pub allocated_tags : Limit → List ℕ → ℕ → ℕ → List ℕ
allocated_tags limit ts n h = tags_after (allocate_answer limit ts n h) ts h

-- what the code's results say; allocation's is `answer_of`
abbrev pub probed_said : Result Probed Refusal → Answer Probe
probed_said (Ok (probed.Empty b k)) = given (empty_at b k)
probed_said (Ok (probed.Tombstone b k)) = given (tombstone_at b k)
probed_said (Ok (probed.PossibleHit b k)) = given (hit_at b k)
probed_said (Ok probed.Closed) = given closed
probed_said (Err r) = refused (number_of r)

abbrev pub found_said : Result Found Refusal → Answer Sought
found_said (Ok (found.At b)) = given (found_at b)
found_said (Ok found.Absent) = given absent
found_said (Ok found.Closed) = given unreached
found_said (Err r) = refused (number_of r)
