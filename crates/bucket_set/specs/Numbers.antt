-- A set of numbers as bits in words: number i is bit i % 64 of word i / 64. Assumes nothing.
use Rattle.std.specs.Prelude.{Bool, List, ℕ, ◌/◌, ◌%◌, ◌^◌, get_or, set, replicate}
use Rattle.std.specs.Int.Bits.{bit_or}
use Rattle.page_diff.specs.Diff.{marked}

-- number i is in the set; none past its words is
abbrev pub holds_in : List ℕ → ℕ → Bool
holds_in ws i = marked ws i

-- the set with number i; past its words it stays
unfoldable pub with_number : List ℕ → ℕ → List ℕ
with_number ws i = set ws (i / 64) (bit_or (get_or ws (i / 64) 0) (2 ^ (i % 64)))

-- the empty set of k words
abbrev pub none_of : ℕ → List ℕ
none_of k = replicate k 0
