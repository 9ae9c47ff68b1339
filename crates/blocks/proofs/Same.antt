-- Two lists hold the same bytes exactly if they are equal. Assumes nothing.
use mathlib.Core.Path.{◌≡◌, refl, sym, ap, ap₂, ◌∙◌}
use mathlib.Core.Bool.{Bool, true, false, ◌&&◌}
use mathlib.Core.List.{List, [], ◌∷◌}
use Prim.Native.Nat.{ℕ, ◌+◌, ◌<◌}
use native.Mathlib.Omega.{arith}
use lib.Dec.{eqb}
use lib.ListN.{length, take, drop, length-take, length-drop}
use borrow.Author.Tests.{eq-eqb}
use Rattle.std.specs.Prelude.{nat_eq}
use Rattle.std.specs.Cmp.Lexicographic.{pointwise, same_text}
use Rattle.blocks.specs.Blocks.{same_bytes}

-- what `==` of the library says of two arrays
pub same-pointwise : (xs ys : List ℕ) → pointwise nat_eq xs ys ≡ same_bytes xs ys
unfolding same_bytes
same-pointwise [] [] = refl
same-pointwise [] (y ∷ ys) = refl
same-pointwise (x ∷ xs) [] = refl
same-pointwise (x ∷ xs) (y ∷ ys) = ap (λ (t : Bool). eqb x y && t) (same-pointwise xs ys)

pub same_equal : (xs ys : List ℕ) → same_bytes xs ys ≡ true → xs ≡ ys
same_equal xs ys e = same_text xs ys (sym (same-pointwise xs ys ∙ e))

pub equal_same : (xs ys : List ℕ) → xs ≡ ys → same_bytes xs ys ≡ true
unfolding same_bytes
equal_same xs ys e = ap (same_bytes xs) (sym e) ∙ self xs
  where
    self : (zs : List ℕ) → same_bytes zs zs ≡ true
    self [] = refl
    self (z ∷ zs) = ap₂ ◌&&◌ (eq-eqb z z refl) (self zs)

-- fewer bytes than the id has
pub same_short : (img id : List ℕ) (at w : ℕ) → 0 < w → length id ≡ w → length img < at + w → same_bytes (take w (drop at img)) id ≡ false
same_short img id at w some l m = go (same_bytes (take w (drop at img)) id) refl
  where
    go : (t : Bool) → same_bytes (take w (drop at img)) id ≡ t → same_bytes (take w (drop at img)) id ≡ false
    go true e = absurd (omega (arith, ap length (same_equal (take w (drop at img)) id e), length-take w (drop at img), length-drop at img))
    go false e = e
