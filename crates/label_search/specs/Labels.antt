-- 01, 'Audit': a label that is there twice, and the first bucket where that shows. Assumes nothing.
use Rattle.std.specs.Prelude.{Bool, false, cond, ◌&&◌, ◌||◌, List, ℕ, zero, suc, ltb, get_or}
use Rattle.answers.specs.Answers.{Answer, given}
use Rattle.blocks.specs.Blocks.{same_bytes}
use Rattle.ht_file.specs.Places.{if_image}
use Rattle.meta_map.specs.Tags.{is_full}
use Rattle.probe.specs.Path.{page_end}

-- a full bucket before k has the label l: a search among them
unfoldable pub labelled : List ℕ → ℕ → List ℕ → ℕ → Bool
unfolding same_bytes
labelled img n l zero = false
labelled img n l (suc j) = labelled img n l j || (is_full (get_or img j 0) && same_bytes (page_end img n j) l)

-- "label twice", told at the later of two full buckets
abbrev pub doubled : List ℕ → ℕ → ℕ → Bool
doubled img n b = is_full (get_or img b 0) && labelled img n (page_end img n b) b

-- the first doubled bucket before k, k where there is none
unfoldable pub doubled_before : List ℕ → ℕ → ℕ → ℕ
unfolding labelled
doubled_before img n zero = zero
doubled_before img n (suc k) = cond (ltb (doubled_before img n k) k) (doubled_before img n k) (cond (doubled img n k) k (suc k))

abbrev pub doubled_answer : List ℕ → ℕ → Answer ℕ
doubled_answer img n = if_image img n (given (doubled_before img n n))
