-- Every case of every definition, on literals: the numbers that a caller in another language reads. Assumes nothing.
use mathlib.Core.Path.{◌≡◌, refl}
use mathlib.Core.List.{[], ◌∷◌, map}
use Prim.Native.Nat.{ℕ}
use lib.Ieee.{binary64}
use lib.Ieee as Ieee
use Rattle.answers.specs.Answers.{given, refused}
use Rattle.wal.specs.declared.Edition.TheVariants.{One, Two}
use Rattle.wal.specs.declared.Writer.TheVariants.{Fresh, Open, Finished}
use Rattle.numbers.specs.Numbers.{refusal_of, edition_of, edition_number, writer_from, writer_kind, writer_at, audit_values}

pub refusals : refusal_of {A = ℕ} (given 7) ∷ refusal_of {A = ℕ} (refused 9) ∷ [] ≡ 0 ∷ 9 ∷ []
refusals = refl

-- an edition, both ways
pub editions : (map edition_of (0 ∷ 1 ∷ 2 ∷ 3 ∷ []) ≡ One ∷ One ∷ Two ∷ One ∷ []) × (map edition_number (One ∷ Two ∷ []) ≡ 1 ∷ 2 ∷ [])
editions = (refl, refl)

-- a writer, both ways
pub writers : (map (λ k. writer_from k 5) (0 ∷ 1 ∷ 2 ∷ 3 ∷ 4 ∷ []) ≡ Fresh ∷ Open 5 One ∷ Finished 5 ∷ Open 5 Two ∷ Finished 5 ∷ [])
    × (map writer_kind (Fresh ∷ Open 5 One ∷ Open 22 Two ∷ Finished 4096 ∷ []) ≡ 0 ∷ 1 ∷ 3 ∷ 2 ∷ [])
    × (map writer_at (Fresh ∷ Open 5 One ∷ Open 22 Two ∷ Finished 4096 ∷ []) ≡ 0 ∷ 5 ∷ 22 ∷ 4096 ∷ [])
writers = (refl, refl, refl)

-- an audit with the rate 0.5, by its bits; a refused one has 0.0
pub audits : map audit_values (given (record { capacity = 2; occupied = 1; rate = Ieee.of_bits binary64 0x3FE0000000000000 }) ∷ refused 21 ∷ [])
    ≡ record { capacity = 2; occupied = 1; rate = Ieee.of_bits binary64 0x3FE0000000000000 } ∷ record { capacity = 0; occupied = 0; rate = Ieee.of_bits binary64 0 } ∷ []
unfolding Ieee.of_bits Ieee.of_int
audits = refl
