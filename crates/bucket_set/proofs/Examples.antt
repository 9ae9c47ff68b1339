-- Sets on literals: what is added, asked and emptied, and what stands past the words. Assumes nothing.
use mathlib.Core.Path.{◌≡◌, refl}
use mathlib.Core.Bool.{true, false}
use mathlib.Core.List.{[], ◌∷◌, map}
use Rattle.page_diff.specs.Diff.{marked}
use Rattle.bucket_set.specs.Numbers.{holds_in, with_number, none_of}

pub sets : with_number (0 ∷ 0 ∷ []) 65 ∷ with_number (1 ∷ 0 ∷ []) 3 ∷ with_number (9 ∷ 0 ∷ []) 3 ∷ with_number (5 ∷ []) 64 ∷ none_of 2 ∷ []
    ≡ (0 ∷ 2 ∷ []) ∷ (9 ∷ 0 ∷ []) ∷ (9 ∷ 0 ∷ []) ∷ (5 ∷ []) ∷ (0 ∷ 0 ∷ []) ∷ []
unfolding with_number
sets = refl

pub asked : map (holds_in (1 ∷ 2 ∷ [])) (0 ∷ 1 ∷ 64 ∷ 65 ∷ 128 ∷ []) ≡ true ∷ false ∷ false ∷ true ∷ false ∷ []
unfolding marked
asked = refl
