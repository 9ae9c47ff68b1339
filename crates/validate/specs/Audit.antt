-- 01, 'Audit': what an audit of a table image answers. Assumes nothing.
use Rattle.std.specs.Prelude.{Bool, cond, ◌||◌, List, ℕ, zero, suc, ◌*◌, leb, eqb, length, get_or, pos, Float}
use Rattle.std.specs.Float.Ieee as Ieee
use Rattle.std.specs.Float.{binary64}
use Rattle.answers.specs.Answers.{Answer, given, refused, and_then}
use Rattle.ht_file.specs.Places.{tags_of, if_image}
use Rattle.label_search.specs.Labels.{labelled, doubled}
use Rattle.blocks.specs.Blocks.{all_zero}
use Rattle.meta_map.specs.Tags.{full, is_full, full_tag, count_of, padding_empty}
use Rattle.probe.specs.Path.{visits, Stop, stop_at, nowhere, first_stop, is_empty}
use Rattle.validate.specs.declared.Audit.{Audit}

-- "Reachable: its bucket is visited within max(2n, 100,000) visits with no empty visit before"; 23: "empty met first", 24: "not reached"
abbrev pub audit_visits : ℕ → ℕ
audit_visits n = cond (leb 100000 (2 * n)) (2 * n) 100000

abbrev pub stops_reach : List ℕ → ℕ → ℕ → Bool
stops_reach img b c = eqb c b || is_empty (get_or img c 0)

abbrev pub reach_saw : ℕ → Stop → Answer (Unit {0})
reach_saw b (stop_at c k) = cond (eqb c b) (given tt) (refused 23)
reach_saw b nowhere = refused 24

unfoldable pub reaching : List ℕ → ℕ → ℕ → ℕ → Answer (Unit {0})
unfolding visits first_stop
reaching img n h b = reach_saw b (first_stop (stops_reach img b) 0 (visits n h 0 (audit_visits n)))

-- the tag and the path of a bucket with the hash h; 22: "wrong tag"
abbrev pub path_audit : List ℕ → ℕ → ℕ → ℕ → Answer (Unit {0})
path_audit img n h b = cond (is_full (get_or img b 0)) (cond (eqb (get_or img b 0) (full_tag h)) (reaching img n h b) (refused 22)) (given tt)

-- "bucket by bucket 21, 22, 23 or 24"; 21: "label twice"
abbrev pub bucket_audit : List ℕ → ℕ → ℕ → ℕ → Answer (Unit {0})
bucket_audit img n h b = cond (doubled img n b) (refused 21) (path_audit img n h b)

unfoldable pub audited_to : List ℕ → ℕ → List ℕ → ℕ → Answer (Unit {0})
unfolding labelled reaching
audited_to img n hashes zero = given tt
audited_to img n hashes (suc b) = and_then (audited_to img n hashes b) (λ _. bucket_audit img n (get_or hashes b 0) b)

-- "capacity, occupied and their rate, occupied over capacity as one f64 division"; "occupied [..] the number of full tags"
unfoldable pub rate_of : ℕ → ℕ → Float
rate_of o c = Ieee.div binary64 (Ieee.of_int binary64 (pos o)) (Ieee.of_int binary64 (pos c))

abbrev pub audit_of : List ℕ → ℕ → Audit
audit_of img n = record { capacity = n; occupied = count_of full img n; rate = rate_of (count_of full img n) n }

-- "Audit: 1, 2, 20, then bucket by bucket"; "Hashes: one per bucket"; 20: "padding not all zero"
unfoldable pub audit_answer : List ℕ → ℕ → List ℕ → Answer Audit
unfolding audited_to count_of rate_of all_zero
audit_answer img n hashes =
    if_image img n
    (cond (eqb (length hashes) n)
    (cond (padding_empty (tags_of n img) n) (and_then (audited_to img n hashes n) (λ _. given (audit_of img n))) (refused 20))
    (refused 2))
