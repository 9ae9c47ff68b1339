-- 01, 'Tags': one byte per bucket. Assumes nothing.
use Rattle.std.specs.Prelude.{Bool, true, false, cond, ◌&&◌, List, ℕ, zero, suc, ◌+◌, ◌/◌, ◌^◌, leb, ltb, eqb, length, get_or, set, drop}
use Rattle.answers.specs.Answers.{Answer, given, refused}
use Rattle.blocks.specs.Blocks.{all_zero}
use Rattle.ht_file.specs.Places.{tags_fit, if_tags}

-- the four kinds of a tag byte
pub data Kind : Type 0 where
  empty tombstone full other : Kind

-- "0x00 empty, 0x7F tombstone"; "Full means bit 7 set. Bytes 0x01 to 0x7E are none of the three"
abbrev pub kind_of : ℕ → Kind
kind_of t = cond (eqb t 0x00) empty (cond (eqb t 0x7F) tombstone (cond (leb 128 t) full other))

-- the kind of tag t is k
abbrev pub is_kind : Kind → Kind → Bool
is_kind empty empty = true
is_kind empty tombstone = false
is_kind empty full = false
is_kind empty other = false
is_kind tombstone empty = false
is_kind tombstone tombstone = true
is_kind tombstone full = false
is_kind tombstone other = false
is_kind full empty = false
is_kind full tombstone = false
is_kind full full = true
is_kind full other = false
is_kind other empty = false
is_kind other tombstone = false
is_kind other full = false
is_kind other other = true

abbrev pub is_full : ℕ → Bool
is_full t = is_kind full (kind_of t)

-- "full tag = 128 + floor(hash / 2^57)"
abbrev pub full_tag : ℕ → ℕ
full_tag h = 128 + h / 2 ^ 57

abbrev pub one : Bool → ℕ
one true = 1
one false = 0

-- how many of the first n tags are of kind k
unfoldable pub count_of : Kind → List ℕ → ℕ → ℕ
count_of k ts zero = 0
count_of k ts (suc n) = count_of k ts n + one (is_kind k (kind_of (get_or ts n 0)))

-- "Tag bytes from n on are padding"
abbrev pub padding_empty : List ℕ → ℕ → Bool
padding_empty ts n = all_zero (drop n ts)

-- writing the tag of bucket b: 1, 9, else done
abbrev pub write_answer : List ℕ → ℕ → ℕ → Answer (Unit {0})
write_answer ts n b = if_tags ts n (cond (ltb b n) (given tt) (refused 9))

-- the tags afterwards: only bucket b's tag, and only where that was done
abbrev pub tag_written : List ℕ → ℕ → ℕ → ℕ → List ℕ
tag_written ts n b t = cond (tags_fit n (length ts) && ltb b n) (set ts b t) ts
