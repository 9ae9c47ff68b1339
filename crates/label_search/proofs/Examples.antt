-- The first doubled label on literals: 1, one that is there twice, tombstones and empty buckets between, and none. Assumes nothing.
use mathlib.Core.Path.{◌≡◌, refl}
use mathlib.Core.List.{List, [], ◌∷◌, ◌++◌}
use Prim.Native.Nat.{ℕ}
use lib.ListN.{replicate}
use Rattle.answers.specs.Answers.{given, refused}
use Rattle.label_search.specs.Labels.{doubled_before, doubled_answer}

-- images whose tags begin with these, and all of whose pages are zero, but for a byte of bucket 1's label
abbrev three : ℕ → ℕ → ℕ → ℕ → List ℕ
three a b c l = a ∷ b ∷ c ∷ replicate 12284 0 ++ (l ∷ replicate 4096 0)

pub firsts : doubled_answer [] 0 ∷ doubled_answer (three 0x80 0x80 0x80 0) 2 ∷ doubled_answer (three 0x80 0x80 0x80 0) 3 ∷ doubled_answer (three 0x80 0x80 0x81 7) 3 ∷ doubled_answer (three 0x80 0x7F 0x00 0) 3 ∷ []
    ≡ refused 1 ∷ refused 1 ∷ given 1 ∷ given 2 ∷ given 3 ∷ []
unfolding doubled_before
firsts = refl
