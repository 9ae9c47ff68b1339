-- Sets of numbers: what an added number changes, what the empty set holds, and that a set is no more than its numbers. Assumes nothing.
use mathlib.Core.Path.{◌≡◌, refl, sym, ap, ap₂, ◌∙◌}
use mathlib.Core.Bool.{Bool, true, false, ◌||◌, or_comm, or-false}
use mathlib.Core.List.{List}
use Prim.Native.Nat.{ℕ, zero, suc, ◌+◌, ◌*◌, ◌/◌, ◌%◌, ◌^◌, ◌≤◌, ◌<◌}
use native.Mathlib.Decide.{ℕ_discrete, dec_lt}
use native.Mathlib.Nat.{mod-eq_of_lt, mod-one}
use native.Mathlib.Omega.{arith}
use lib.Dec.{eqb}
use lib.Bits.{bit_or}
use lib.ListN.{length, get_or, length-set, length-replicate, get_or-replicate, get_or-eq_default}
use lib.Seq.{get_or-set_same, get_or-set_other, set_out, ext_get_or}
use borrow.Author.Tests.{eq-eqb, ne_eqb, eqb-true, eqb-false}
use Rattle.page_diff.specs.Diff.{digit, marked}
use Rattle.page_diff.proofs.Digits.{digit_lt, digit_none, more_digits}
use Rattle.page_diff.proofs.MarkLaws.{bit, bit_or_lem, bit-pow, off}
use Rattle.bucket_set.specs.Numbers.{holds_in, with_number, none_of}

-- a word that is zero holds nothing
zero_holds : (x i : ℕ) → x ≡ 0 → bit x i ≡ false
zero_holds x i e = off (ap (λ (y : ℕ). digit y i) e ∙ digit_none i)

-- ---- past the words
module _ (ws : List ℕ) (i : ℕ) (l : length ws ≤ i / 64) where
  pub past_has : holds_in ws i ≡ false
  unfolding marked
  past_has = zero_holds (get_or ws (i / 64) 0) (i % 64) (get_or-eq_default ws 0 l)

  pub past_add : with_number ws i ≡ ws
  unfolding with_number
  past_add = set_out ws (i / 64) (bit_or (get_or ws (i / 64) 0) (2 ^ (i % 64))) l

-- ---- a number added
module _ (ws : List ℕ) (i : ℕ) where
  -- the number of words stays
  pub add_long : length (with_number ws i) ≡ length ws
  unfolding with_number
  add_long = length-set ws (i / 64) (bit_or (get_or ws (i / 64) 0) (2 ^ (i % 64)))

  -- its word
  bits : i / 64 < length ws → (j : ℕ) → bit (get_or (with_number ws i) (i / 64) 0) j ≡ (bit (get_or ws (i / 64) 0) j || eqb j (i % 64))
  unfolding with_number
  bits l j =
      let x = get_or ws (i / 64) 0 in
      ap (λ (y : ℕ). bit y j) (get_or-set_same ws (i / 64) (bit_or x (2 ^ (i % 64))) 0 l) ∙ bit_or_lem x (2 ^ (i % 64)) j ∙ ap (λ (t : Bool). bit x j || t) (bit-pow (i % 64) j)

  -- it is there
  pub has_added : i < 64 * length ws → holds_in (with_number ws i) i ≡ true
  unfolding marked
  has_added l =
      let x = bit (get_or ws (i / 64) 0) (i % 64) in
      bits (omega arith) (i % 64) ∙ or_comm x (eqb (i % 64) (i % 64)) ∙ ap (λ (t : Bool). t || x) (eq-eqb (i % 64) (i % 64) refl)

  -- another of the same word, and of another word
  same_word : (j : ℕ) → (j ≡ i → ⊥) → i / 64 < length ws → j / 64 ≡ i / 64 → holds_in (with_number ws i) j ≡ holds_in ws j
  unfolding marked
  same_word j n l e =
      let x = get_or ws (i / 64) 0 in
      let d : j % 64 ≡ i % 64 → ⊥ = λ q. n (omega arith) in
      ap (λ (w : ℕ). bit (get_or (with_number ws i) w 0) (j % 64)) e ∙ bits l (j % 64) ∙ ap (λ (t : Bool). bit x (j % 64) || t) (ne_eqb (j % 64) (i % 64) d) ∙ or-false (bit x (j % 64))
      ∙ ap (λ (w : ℕ). bit (get_or ws w 0) (j % 64)) (sym e)

  other_word : (j : ℕ) → (j / 64 ≡ i / 64 → ⊥) → holds_in (with_number ws i) j ≡ holds_in ws j
  unfolding marked with_number
  other_word j q = ap (λ (x : ℕ). bit x (j % 64)) (get_or-set_other ws (i / 64) (j / 64) (bit_or (get_or ws (i / 64) 0) (2 ^ (i % 64))) 0 q)

  -- every other number is there or not as before
  pub has_other : (j : ℕ) → (j ≡ i → ⊥) → holds_in (with_number ws i) j ≡ holds_in ws j
  has_other j n = go (dec_lt (i / 64) (length ws)) (ℕ_discrete (j / 64) (i / 64))
    where
      go : Dec (i / 64 < length ws) → Dec (j / 64 ≡ i / 64) → holds_in (with_number ws i) j ≡ holds_in ws j
      go (yes l) (yes e) = same_word j n l e
      go (yes l) (no q) = other_word j q
      go (no l) e = ap (λ (us : List ℕ). holds_in us j) (past_add ws i (omega arith))

  -- so what was there stays
  pub has_still : (j : ℕ) → holds_in ws j ≡ true → holds_in (with_number ws i) j ≡ true
  has_still j h = go (ℕ_discrete j i) (dec_lt (i / 64) (length ws))
    where
      go : Dec (j ≡ i) → Dec (i / 64 < length ws) → holds_in (with_number ws i) j ≡ true
      go (no n) l = has_other j n ∙ h
      go (yes e) (yes l) = ap (holds_in (with_number ws i)) e ∙ has_added (omega arith)
      go (yes e) (no l) = ap (λ (us : List ℕ). holds_in us j) (past_add ws i (omega arith)) ∙ h

-- ---- the empty set
pub none_words : (k w : ℕ) → get_or (none_of k) w 0 ≡ 0
none_words k w = go (dec_lt w k)
  where
    go : Dec (w < k) → get_or (none_of k) w 0 ≡ 0
    go (yes l) = get_or-replicate k w 0 0 l
    go (no l) = get_or-eq_default (none_of k) 0 (omega (arith, length-replicate {A = ℕ} k 0))

pub none_has : (k i : ℕ) → holds_in (none_of k) i ≡ false
unfolding marked
none_has k i = zero_holds (get_or (none_of k) (i / 64) 0) (i % 64) (none_words k (i / 64))

pub none_long : (k : ℕ) → length (none_of k) ≡ k
none_long k = length-replicate k 0

-- ---- two sets of as many words with the same numbers are equal
same_digit : (x y : ℕ) → x < 2 → y < 2 → eqb x 1 ≡ eqb y 1 → x ≡ y
same_digit x y h k e = go (eqb y 1) refl
  where
    go : (t : Bool) → eqb y 1 ≡ t → x ≡ y
    go true q = eqb-true x 1 (e ∙ q) ∙ sym (eqb-true y 1 q)
    go false q =
        let a : x ≡ 1 → ⊥ = eqb-false x 1 (e ∙ q) in
        let b : y ≡ 1 → ⊥ = eqb-false y 1 q in
        omega (arith, a, b)

same_low : (x y k : ℕ) → ((i : ℕ) → i < k → bit x i ≡ bit y i) → x % 2 ^ k ≡ y % 2 ^ k
same_low x y zero f = mod-one x ∙ sym (mod-one y)
same_low x y (suc k) f =
    more_digits x k
    ∙ ap₂ (λ (p q : ℕ). p * 2 ^ k + q) (same_digit (digit x k) (digit y k) (digit_lt x k) (digit_lt y k) (f k (omega arith))) (same_low x y k (λ i l. f i (omega arith)))
    ∙ sym (more_digits y k)

pub same_numbers : (ws us : List ℕ) → length ws ≡ length us → ((w : ℕ) → w < length ws → get_or ws w 0 < 2 ^ 64) → ((w : ℕ) → w < length us → get_or us w 0 < 2 ^ 64)
    → ((i : ℕ) → i < 64 * length ws → holds_in ws i ≡ holds_in us i) → ws ≡ us
unfolding marked
same_numbers ws us e h k f =
    ext_get_or 0 ws us e (λ w l.
    sym (mod-eq_of_lt (h w l)) ∙ same_low (get_or ws w 0) (get_or us w 0) 64 (λ i q.
    let d : (64 * w + i) / 64 ≡ w = omega arith in
    let m : (64 * w + i) % 64 ≡ i = omega arith in
    sym (ap₂ (λ (v j : ℕ). bit (get_or ws v 0) j) d m) ∙ f (64 * w + i) (omega arith) ∙ ap₂ (λ (v j : ℕ). bit (get_or us v 0) j) d m)
    ∙ mod-eq_of_lt (k w (omega arith)))
