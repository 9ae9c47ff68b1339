-- The first doubled bucket: what is found by any way is what the definition names. Assumes nothing.
use mathlib.Core.Path.{◌≡◌, refl, sym, ap, ◌∙◌, subst}
use mathlib.Core.Bool.{Bool, true, false, true≢false, cond}
use mathlib.Core.List.{List}
use Prim.Native.Nat.{ℕ, zero, suc, ◌<◌}
use native.Mathlib.Decide.{ℕ_discrete, dec_lt}
use native.Mathlib.Omega.{arith}
use lib.Dec.{ltb}
use lib.ListN.{length}
use borrow.Author.Tests.{ltb-true, ltb-false}
use Rattle.answers.specs.Answers.{given}
use Rattle.answers.proofs.Laws.{given_one}
use Rattle.ht_file.specs.Places.{image_fits, if_table}
use Rattle.label_search.specs.Labels.{doubled, doubled_before, doubled_answer}
use Rattle.label_search.specs.InnerSearch.{FirstBefore, FirstDoubled}

module _ (img : List ℕ) (n : ℕ) where
  before_next : (k r : ℕ) → FirstBefore img n k r → (t : Bool) → ltb r k ≡ t → (d : Bool) → doubled img n k ≡ d → FirstBefore img n (suc k) (cond t r (cond d k (suc k)))
  before_next k r f true p d q = record { within = omega (arith, f.within); none = f.none; there = λ h. f.there (ltb-true r k p) }
  before_next k r f false p true q =
      let e : k ≡ r = omega (arith, ltb-false r k p, f.within) in
      record { within = omega arith; none = λ b h. f.none b (omega arith); there = λ h. q }
  before_next k r f false p false q =
      let e : k ≡ r = omega (arith, ltb-false r k p, f.within) in
      record { within = omega arith; none = λ b h. up_to b h (ℕ_discrete b k) e; there = λ h. absurd (omega arith) }
    where
      up_to : (b : ℕ) → b < suc k → Dec (b ≡ k) → k ≡ r → doubled img n b ≡ false
      up_to b h (yes z) e = ap (doubled img n) z ∙ q
      up_to b h (no z) e = f.none b (omega (arith, z))

  before_is : (k : ℕ) → FirstBefore img n k (doubled_before img n k)
  unfolding doubled_before
  before_is zero = record { within = omega arith; none = λ b h. absurd (omega arith); there = λ h. absurd (omega arith) }
  before_is (suc k) = before_next k (doubled_before img n k) (before_is k) (ltb (doubled_before img n k) k) refl (doubled img n k) refl

  -- what the definition names is the first
  pub first_is : FirstDoubled img n (doubled_before img n n)
  first_is = before_is n

  -- and there is one first only
  pub first_one : (r s : ℕ) → FirstDoubled img n r → FirstDoubled img n s → r ≡ s
  first_one r s f g = go (dec_lt r s) (dec_lt s r)
    where
      go : Dec (r < s) → Dec (s < r) → r ≡ s
      go (yes l) d = absurd (true≢false (sym (f.there (omega (arith, g.within))) ∙ g.none r l))
      go (no l) (yes m) = absurd (true≢false (sym (g.there (omega (arith, f.within))) ∙ f.none s m))
      go (no l) (no m) = omega arith

  pub first_found : (r : ℕ) → FirstDoubled img n r → r ≡ doubled_before img n n
  first_found r f = first_one r (doubled_before img n n) f first_is

  -- so an answer about an image that fits is the first
  module _ (fits : image_fits n (length img) ≡ true) where
    pub first_given : doubled_answer img n ≡ given (doubled_before img n n)
    first_given = ap (λ (t : Bool). if_table t (given (doubled_before img n n))) fits

    pub first_told : (r : ℕ) → given r ≡ doubled_answer img n → FirstDoubled img n r
    first_told r e = subst (FirstDoubled img n) (sym (given_one r (doubled_before img n n) (e ∙ first_given))) first_is
