-- 01, 'Sync', and 02, W-203: what its parts decide and write. Assumes nothing.
use Rattle.std.specs.Prelude.{Bool, true, false, cond, List, ℕ, ◌-◌, ◌^◌, ltb, eqb, length, get_or, set, Result, Ok, Err, Option, None, Some}
use Rattle.answers.specs.Answers.{Answer, given, refused}
use Rattle.answers.specs.Refusals.{number_of}
use Rattle.answers.specs.declared.Refusal.{Refusal}
use Rattle.ht_file.specs.Places.{tags_fit}
use Rattle.meta_map.specs.Tags.{full, full_tag, count_of}
use Rattle.page_diff.specs.Diff as diff
use Rattle.wal.specs.Log.{clear_body, update_body}
use Rattle.sync_parts.specs.declared.Where.{Where}
use Rattle.sync_parts.specs.declared.Where.TheVariants.{Known, Fresh as FreshPage, Cell}

-- the bucket that a change names, if it names one
pub data Named : Type 0 where
  bucket : ℕ → Named
  none : Named

-- "Lent cells are u64, and 2^64-1 means unset"
abbrev pub cell_names : ℕ → Named
cell_names v = cond (eqb v (2 ^ 64 - 1)) none (bucket v)

-- "cell index 2"
abbrev pub named_by : Where → List ℕ → Answer Named
named_by (Known b) cells = given (bucket b)
named_by FreshPage cells = given none
named_by (Cell i) cells = cond (ltb i (length cells)) (given (cell_names (get_or cells i 0))) (refused 2)

abbrev pub name_said : Result (Option ℕ) Refusal → Answer Named
name_said (Ok (Some b)) = given (bucket b)
name_said (Ok None) = given none
name_said (Err r) = refused (number_of r)

-- the tag rule: "known, or a set cell, needs that tag to be the hash's"; and of a clearing change, 02, W-203: "the tag must be the full tag of the page's
-- own hash"
abbrev pub tag_fits : ℕ → ℕ → Bool
tag_fits h t = eqb t (full_tag h)

-- the bytes after its record's mark: of a clear; of an update with the marked nodes of its page
abbrev pub body_of : Bool → List ℕ → ℕ
body_of true ws = clear_body
body_of false ws = update_body (diff.count_of ws)

-- "an unset cell, allocates (the cell then has the bucket)"
abbrev pub cells_at : Where → ℕ → List ℕ → List ℕ
cells_at (Known k) b cells = cells
cells_at FreshPage b cells = cells
cells_at (Cell i) b cells = set cells i b

-- "the number of full tags", of tags that are those of n buckets; else none are counted
abbrev pub full_tags : ℕ → List ℕ → ℕ
full_tags n tags = cond (tags_fit n (length tags)) (count_of full tags n) 0
