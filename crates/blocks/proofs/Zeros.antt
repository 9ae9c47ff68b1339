-- Bytes that are all zero: one byte more, none left, and each of them. Assumes nothing.
use mathlib.Core.Path.{◌≡◌, refl, sym, ap, ap₂, ◌∙◌}
use mathlib.Core.Bool.{Bool, true, ◌&&◌}
use mathlib.Core.List.{List, [], ◌∷◌, ◌++◌}
use Prim.Native.Nat.{ℕ, zero, suc, ◌+◌, ◌≤◌, ◌<◌}
use native.Mathlib.Numerals.{add-one}
use native.Mathlib.Omega.{arith}
use lib.Dec.{eqb}
use lib.ListN.{length, get_or, drop, replicate, drop_of_length-le}
use lib.Seq.{drop-cons}
use borrow.Author.Tests.{eqb-true, eq-eqb}
use Rattle.blocks.specs.Blocks.{all_zero}
use Rattle.std.proofs.Math.Bool.{and_assoc}
use Rattle.std.proofs.lemmas.Bool.{and_parts}

-- one byte, and those after it
pub zeros_next : (xs : List ℕ) (i : ℕ) → i < length xs → all_zero (drop i xs) ≡ (eqb (get_or xs i 0) 0 && all_zero (drop (i + 1) xs))
unfolding all_zero
zeros_next xs i l = rw (add-one, drop-cons xs i 0)

pub zeros_none : (xs : List ℕ) (i : ℕ) → length xs ≤ i → all_zero (drop i xs) ≡ true
unfolding all_zero
zeros_none xs i l = rw (drop_of_length-le xs l)

-- each of them is zero
pub zeros_at : (xs : List ℕ) → all_zero xs ≡ true → (i : ℕ) → get_or xs i 0 ≡ 0
unfolding all_zero
zeros_at [] e i = refl
zeros_at (x ∷ xs) e zero = eqb-true x 0 (and_parts (eqb x 0) (all_zero xs) e).0
zeros_at (x ∷ xs) e (suc i) = zeros_at xs (and_parts (eqb x 0) (all_zero xs) e).1 i

pub zeros_all : (xs : List ℕ) → ((i : ℕ) → i < length xs → get_or xs i 0 ≡ 0) → all_zero xs ≡ true
unfolding all_zero
zeros_all [] h = refl
zeros_all (x ∷ xs) h = ap₂ ◌&&◌ (eq-eqb x 0 (h 0 (omega arith))) (zeros_all xs (λ i l. h (suc i) (omega arith)))

pub zeros-replicate : (n : ℕ) → all_zero (replicate n 0) ≡ true
unfolding all_zero
zeros-replicate zero = refl
zeros-replicate (suc n) = zeros-replicate n

-- one part, and those after it
pub zeros-append : (xs ys : List ℕ) → all_zero (xs ++ ys) ≡ (all_zero xs && all_zero ys)
unfolding all_zero
zeros-append [] ys = refl
zeros-append (x ∷ xs) ys = ap (λ (t : Bool). eqb x 0 && t) (zeros-append xs ys) ∙ sym (and_assoc (eqb x 0) (all_zero xs) (all_zero ys))

pub zeros_nothing : (xs : List ℕ) → length xs ≡ 0 → all_zero xs ≡ true
unfolding all_zero
zeros_nothing [] e = refl
zeros_nothing (x ∷ xs) e = cc
