-- The step along the marked slots by trailing zeros and a cleared bit: the lowest set digit is the first slot, and `x & (x - 1)` is the
-- word without it. Assumes nothing.
use mathlib.Core.Path.{◌≡◌, sym, ap, ap₂, ◌∙◌}
use mathlib.Core.Bool.{Bool, false, not, ◌&&◌, and-true, and-false}
use mathlib.Core.List.{List, [], ◌∷◌}
use Prim.Native.Nat.{ℕ, suc, ◌+◌, ◌-◌, ◌*◌, ◌/◌, ◌^◌, ◌≤◌, ◌<◌}
use native.Mathlib.Nat.{lt_of_not-le, lt_of_le_of_lt}
use native.Mathlib.Decide.{dec_le}
use native.Mathlib.Omega.{arith}
use lib.Dec.{eqb}
use lib.ListN.{get_or}
use lib.Bits.{bit_and, and_le_l}
use lib.Count.{count_trailing_zeros}
use borrow.Author.Tests.{eq-eqb, ne_eqb}
use Rattle.page_diff.specs.Diff.{digit, marked, first_slot, without_first}
use Rattle.page_diff.proofs.Digits.{digit_none, lowest, lowest_found, drop_lowest, digit_dropped_low, digit_dropped_high}
use Rattle.page_diff.proofs.MarkLaws.{bit, on, off, eqb_iff, mark_low, mark_high, two_words, by_word}
use Rattle.page_diff.proofs.SlotLaws.{first_is, first_none}

-- a word without its lowest set digit, at t
without_lowest : (x t i : ℕ) → ((j : ℕ) → j < t → digit x j ≡ 0) → digit x t ≡ 1 → bit (bit_and x (x - 1)) i ≡ (bit x i && not (eqb i t))
without_lowest x t i h e = ap (λ (n : ℕ). bit n i) (drop_lowest x t h e) ∙ go (dec_le (suc t) i) (dec_le t i)
  where
    go : Dec (suc t ≤ i) → Dec (t ≤ i) → bit (x / 2 ^ suc t * 2 ^ suc t) i ≡ (bit x i && not (eqb i t))
    go (yes p) q =
        ap (λ (n : ℕ). eqb n 1) (digit_dropped_high x (suc t) i p)
        ∙ sym (ap (λ (b : Bool). bit x i && not b) (ne_eqb i t (λ d. omega arith)) ∙ and-true (bit x i))
    go (no p) (yes q) =
        off (digit_dropped_low x (suc t) i (lt_of_not-le p))
        ∙ sym (ap (λ (b : Bool). bit x i && not b) (eq-eqb i t (omega arith)) ∙ and-false (bit x i))
    go (no p) (no q) =
        off (digit_dropped_low x (suc t) i (lt_of_not-le p))
        ∙ sym (ap (λ (b : Bool). b && not (eqb i t)) (off (h i (lt_of_not-le q))))

module _ (ws : List ℕ) (h : get_or ws 0 0 < 2 ^ 64) (k : get_or ws 1 0 < 2 ^ 64) where
  -- the low word is not 0: its lowest digit is the first slot
  pub low_first : (get_or ws 0 0 ≡ 0 → ⊥) → first_slot ws ≡ count_trailing_zeros 64 (get_or ws 0 0)
  low_first n =
      let x : ℕ = get_or ws 0 0 in
      let l : count_trailing_zeros 64 x < 64 = lowest_found 64 x h n in
      first_is ws (count_trailing_zeros 64 x) (omega arith) (mark_low ws (count_trailing_zeros 64 x) l ∙ on ((lowest 64 x).there l)) (λ s q. mark_low ws s (omega arith) ∙ off ((lowest 64 x).below s q))

  pub low_rest : (get_or ws 0 0 ≡ 0 → ⊥) → bit_and (get_or ws 0 0) (get_or ws 0 0 - 1) ∷ get_or ws 1 0 ∷ [] ≡ without_first ws
  low_rest n =
      let x : ℕ = get_or ws 0 0 in
      let t : ℕ = count_trailing_zeros 64 x in
      let l : t < 64 = lowest_found 64 x h n in
      let m : ℕ → Bool = λ s. marked ws s && not (eqb s (first_slot ws)) in
      two_words m (bit_and x (x - 1)) (get_or ws 1 0) (lt_of_le_of_lt (and_le_l x (x - 1)) h) k
      (by_word m (bit_and x (x - 1)) (get_or ws 1 0)
      (λ s u. without_lowest x t s (lowest 64 x).below ((lowest 64 x).there l)
      ∙ ap₂ (λ (b : Bool) (f : ℕ). b && not (eqb s f)) (sym (mark_low ws s u)) (sym (low_first n)))
      (λ s u v. sym (mark_high ws s u v)
      ∙ sym (ap (λ (b : Bool). marked ws s && not b) (ne_eqb s (first_slot ws) (λ e. omega (arith, low_first n))) ∙ and-true (marked ws s))))

  low_unmarked : get_or ws 0 0 ≡ 0 → (s : ℕ) → s < 64 → marked ws s ≡ false
  low_unmarked z s l = mark_low ws s l ∙ ap (λ (x : ℕ). bit x s) z ∙ off (digit_none s)

  -- the low word is 0 and the high one is not
  pub high_first : get_or ws 0 0 ≡ 0 → (get_or ws 1 0 ≡ 0 → ⊥) → first_slot ws ≡ 64 + count_trailing_zeros 64 (get_or ws 1 0)
  high_first z n =
      let x : ℕ = get_or ws 1 0 in
      let t : ℕ = count_trailing_zeros 64 x in
      let l : t < 64 = lowest_found 64 x k n in
      let d : 64 + t - 64 ≡ t = omega arith in
      first_is ws (64 + t) (omega arith) (mark_high ws (64 + t) (omega arith) (omega arith) ∙ on (ap (digit x) d ∙ (lowest 64 x).there l)) (λ s q. by s q (dec_le 64 s))
    where
      by : (s : ℕ) → s < 64 + count_trailing_zeros 64 (get_or ws 1 0) → Dec (64 ≤ s) → marked ws s ≡ false
      by s q (yes p) = mark_high ws s p (omega (arith, lowest_found 64 (get_or ws 1 0) k n)) ∙ off ((lowest 64 (get_or ws 1 0)).below (s - 64) (omega arith))
      by s q (no p) = low_unmarked z s (lt_of_not-le p)

  pub high_rest : get_or ws 0 0 ≡ 0 → (get_or ws 1 0 ≡ 0 → ⊥) → 0 ∷ bit_and (get_or ws 1 0) (get_or ws 1 0 - 1) ∷ [] ≡ without_first ws
  high_rest z n =
      let x : ℕ = get_or ws 1 0 in
      let t : ℕ = count_trailing_zeros 64 x in
      let l : t < 64 = lowest_found 64 x k n in
      let m : ℕ → Bool = λ s. marked ws s && not (eqb s (first_slot ws)) in
      two_words m 0 (bit_and x (x - 1)) (omega arith) (lt_of_le_of_lt (and_le_l x (x - 1)) k)
      (by_word m 0 (bit_and x (x - 1))
      (λ s u. off (digit_none s) ∙ sym (ap (λ (b : Bool). b && not (eqb s (first_slot ws))) (low_unmarked z s u)))
      (λ s u v. without_lowest x t (s - 64) (lowest 64 x).below ((lowest 64 x).there l)
      ∙ ap₂ (λ (b c : Bool). b && not c) (sym (mark_high ws s u v))
      (eqb_iff (s - 64) t s (first_slot ws) (λ e. omega (arith, high_first z n)) (λ e. omega (arith, high_first z n)))))

  none_marked : get_or ws 0 0 ≡ 0 → get_or ws 1 0 ≡ 0 → (s : ℕ) → s < 128 → marked ws s ≡ false
  none_marked y z s v = by (dec_le 64 s)
    where
      by : Dec (64 ≤ s) → marked ws s ≡ false
      by (yes p) = mark_high ws s p v ∙ ap (λ (x : ℕ). bit x (s - 64)) z ∙ off (digit_none (s - 64))
      by (no p) = low_unmarked y s (lt_of_not-le p)

  -- there is no mark
  pub no_first : get_or ws 0 0 ≡ 0 → get_or ws 1 0 ≡ 0 → first_slot ws ≡ 128
  no_first y z = first_none ws (none_marked y z)
