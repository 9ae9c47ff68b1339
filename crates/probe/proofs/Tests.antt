-- The tests of a tag byte, from what the code compared. Assumes nothing.
use mathlib.Core.Path.{◌≡◌, refl, sym, ap₂, ◌∙◌}
use mathlib.Core.Bool.{Bool, true, false, ◌||◌}
use mathlib.Core.List.{List}
use Prim.Native.Nat.{ℕ}
use native.Mathlib.Omega.{arith}
use borrow.Author.Tests.{eq-eqb, ne_eqb}
use Rattle.std.specs.Str.{bytes_eq}
use Rattle.std.proofs.lemmas.Slice.Eq.{bytes_eq-Decides}
use Rattle.blocks.specs.Blocks.{same_bytes}
use Rattle.blocks.proofs.Same.{same_equal, equal_same}
use Rattle.meta_map.specs.Tags.{full_tag}
use Rattle.meta_map.proofs.Laws.{kind_empty, kind_tombstone}
use Rattle.probe.specs.Path.{is_empty, is_tombstone, is_free}

pub empty_is : (t : ℕ) → t ≡ 0x00 → is_empty t ≡ true
empty_is t e = kind_empty t ∙ eq-eqb t 0x00 e

pub empty_not : (t : ℕ) → (t ≡ 0x00 → ⊥) → is_empty t ≡ false
empty_not t e = kind_empty t ∙ ne_eqb t 0x00 e

pub tombstone_is : (t : ℕ) → t ≡ 0x7F → is_tombstone t ≡ true
tombstone_is t e = kind_tombstone t ∙ eq-eqb t 0x7F e

pub tombstone_not : (t : ℕ) → (t ≡ 0x7F → ⊥) → is_tombstone t ≡ false
tombstone_not t e = kind_tombstone t ∙ ne_eqb t 0x7F e

pub free_not : (t : ℕ) → (t ≡ 0x00 → ⊥) → (t ≡ 0x7F → ⊥) → is_free t ≡ false
free_not t a b = ap₂ ◌||◌ (empty_not t a) (tombstone_not t b)

-- a full tag is no free bucket's
pub full_not_free : (h t : ℕ) → t ≡ full_tag h → is_free t ≡ false
full_not_free h t e = free_not t (λ a. absurd (omega (arith, a, e))) (λ b. absurd (omega (arith, b, e)))

-- the library's comparison of bytes is the definition's, with the sides exchanged
pub same_test : (xs ys : List ℕ) (t : Bool) → t ≡ bytes_eq ys xs → same_bytes xs ys ≡ t
same_test xs ys true e = equal_same xs ys (sym ((bytes_eq-Decides ys xs).0 (sym e)))
same_test xs ys false e = go (same_bytes xs ys) refl
  where
    go : (u : Bool) → same_bytes xs ys ≡ u → u ≡ false
    go true q = sym ((bytes_eq-Decides ys xs).1 (sym (same_equal xs ys q))) ∙ sym e
    go false q = refl
