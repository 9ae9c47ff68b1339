-- Laws of a number's binary digits, `digit x i`: of `|`, `&`, a shift, a power of two, a low mask; what `trailing_zeros` and `count_ones` say of them.
-- Over any width. Assumes nothing.
use mathlib.Core.Path.{◌≡◌, refl, sym, ap, ap₂, ◌∙◌}
use Prim.Native.Nat.{ℕ, zero, suc, ◌+◌, ◌-◌, ◌*◌, ◌/◌, ◌%◌, ◌^◌, ◌≤◌, ◌<◌, zero-le, suc-le-suc, min, max}
use native.Mathlib.Nat.{div-one, div_self, div-eq_of_lt, mod-lt, mod-eq_of_lt, mul-mod_left, lt_of_lt_of_le, lt_of_not-le, lt-suc_self, lt_of_le_of_lt, sub-le, mod_self, add-zero}
use native.Mathlib.Numerals.{one-add}
use native.Mathlib.Decide.{dec_le}
use native.Mathlib.Omega.{arith}
use lib.Arith.{digits_mod}
use lib.Pow.{pow_pos, pow_mono, pow-lt, pow-add, shl-shr, shr-shr, field, mod-mod-pow, mod-pow-add, split}
use lib.Bits.{bit_and, bit_or, and_step, or_step, and_shr, or_shr, and_mask, and_block, and_self}
use lib.Count.{ones, ones_cat, count_trailing_zeros, under}
use Rattle.page_diff.specs.Diff.{digit}

pub digit_zero : (x : ℕ) → digit x 0 ≡ x % 2
unfolding digit
digit_zero x = ap (λ (n : ℕ). n % 2) (div-one x)

-- the digits of x from place k on are those of x / 2 ^ k
pub digit-shr : (x k i : ℕ) → digit (x / 2 ^ k) i ≡ digit x (k + i)
unfolding digit
digit-shr x k i = ap (λ (n : ℕ). n % 2) (shr-shr x k i)

pub digit-suc : (x i : ℕ) → digit x (suc i) ≡ digit (x / 2) i
digit-suc x i = ap (digit x) (sym (one-add i)) ∙ sym (digit-shr x 1 i)

pub digit_lt : (x i : ℕ) → digit x i < 2
unfolding digit
digit_lt x i = omega arith

pub digit_high : (x i : ℕ) → x < 2 ^ i → digit x i ≡ 0
unfolding digit
digit_high x i h = ap (λ (n : ℕ). n % 2) (div-eq_of_lt h)

pub digit_none : (i : ℕ) → digit 0 i ≡ 0
digit_none i = digit_high 0 i (pow_pos i)

-- a set digit stands below the number's width
pub digit_below : (x i k : ℕ) → x < 2 ^ k → digit x i ≡ 1 → i < k
digit_below x i k h e = go (dec_le k i)
  where
    go : Dec (k ≤ i) → i < k
    go (yes p) = let z : digit x i ≡ 0 = digit_high x i (lt_of_lt_of_le h (pow_mono p)) in omega arith
    go (no f) = lt_of_not-le f

or_odd : (a b : ℕ) → bit_or a b % 2 ≡ max (a % 2) (b % 2)
or_odd a b = ap (λ (n : ℕ). n % 2) (or_step a b) ∙ digits_mod (bit_or (a / 2) (b / 2)) (omega arith)

and_odd : (a b : ℕ) → bit_and a b % 2 ≡ min (a % 2) (b % 2)
and_odd a b = ap (λ (n : ℕ). n % 2) (and_step a b) ∙ digits_mod (bit_and (a / 2) (b / 2)) (omega arith)

pub digit_or : (a b i : ℕ) → digit (bit_or a b) i ≡ max (digit a i) (digit b i)
unfolding digit
digit_or a b i = ap (λ (n : ℕ). n % 2) (or_shr a b i) ∙ or_odd (a / 2 ^ i) (b / 2 ^ i)

pub digit_and : (a b i : ℕ) → digit (bit_and a b) i ≡ min (digit a i) (digit b i)
unfolding digit
digit_and a b i = ap (λ (n : ℕ). n % 2) (and_shr a b i) ∙ and_odd (a / 2 ^ i) (b / 2 ^ i)

pub digit-pow_same : (i : ℕ) → digit (2 ^ i) i ≡ 1
unfolding digit
digit-pow_same i = ap (λ (n : ℕ). n % 2) (div_self (pow_pos i))

pub digit-pow_above : (i j : ℕ) → i < j → digit (2 ^ i) j ≡ 0
digit-pow_above i j h = digit_high (2 ^ i) j (pow-lt h)

pub digit-pow_below : (i j : ℕ) → j < i → digit (2 ^ i) j ≡ 0
unfolding digit
digit-pow_below i j h =
    let d : ℕ = i - j - 1 in
    let e : i ≡ d + 1 + j = omega arith in
    ap (λ (n : ℕ). 2 ^ n / 2 ^ j % 2) e
    ∙ ap (λ (n : ℕ). n / 2 ^ j % 2) (pow-add 2 (d + 1) j)
    ∙ ap (λ (n : ℕ). n % 2) (shl-shr (2 ^ (d + 1)) j ∙ pow-add 2 d 1)
    ∙ mul-mod_left (2 ^ d) 2

-- the digits below k are those of the remainder by 2 ^ k
pub digit_low : (x i k : ℕ) → i < k → digit (x % 2 ^ k) i ≡ digit x i
unfolding digit
digit_low x i k h =
    let d : ℕ = k - i - 1 in
    let e : k ≡ d + 1 + i = omega arith in
    ap (λ (n : ℕ). x % 2 ^ n / 2 ^ i % 2) e ∙ ap (λ (n : ℕ). n % 2) (field x (d + 1) i) ∙ mod-mod-pow (x / 2 ^ i) d 1

-- one more digit: the remainder by the next power
pub more_digits : (x n : ℕ) → x % 2 ^ suc n ≡ digit x n * 2 ^ n + x % 2 ^ n
unfolding digit
more_digits x n = ap (λ (m : ℕ). x % 2 ^ m) (sym (one-add n)) ∙ mod-pow-add x 1 n

ones_bit : (r : ℕ) → r < 2 → ones r ≡ r
unfolding ones
ones_bit zero h = refl
ones_bit (suc zero) h = refl
ones_bit (suc (suc r)) h = absurd (omega arith)

pub ones_more : (x n : ℕ) → ones (x % 2 ^ suc n) ≡ digit x n + ones (x % 2 ^ n)
ones_more x n =
    ap ones (more_digits x n) ∙ ones_cat n (digit x n) (x % 2 ^ n) (mod-lt x (pow_pos n))
    ∙ ap (λ (m : ℕ). m + ones (x % 2 ^ n)) (ones_bit (digit x n) (digit_lt x n))

-- no digit set below k: the remainder is 0
pub none_set : (x k : ℕ) → ((i : ℕ) → i < k → digit x i ≡ 0) → x % 2 ^ k ≡ 0
none_set x zero h = omega arith
none_set x (suc k) h =
    more_digits x k
    ∙ ap₂ (λ (p q : ℕ). p * 2 ^ k + q) (h k (omega arith)) (none_set x k (λ i l. h i (omega arith)))
    ∙ omega arith

-- `count_trailing_zeros k x` is the place of the lowest set digit
pub record Lowest (k x t : ℕ) : Type 0 where
  pub within : t ≤ k
  pub below : (i : ℕ) → i < t → digit x i ≡ 0
  pub there : t < k → digit x t ≡ 1

lowest_under : (k x d t : ℕ) → x % 2 ≡ d → d < 2 → Lowest k (x / 2) t → Lowest (suc k) x (under d t)
lowest_under k x zero t e h l =
    record {
      within = suc-le-suc l.within;
      below = elim [ zero ↦ λ p. digit_zero x ∙ e | suc i ↦ λ p. digit-suc x i ∙ l.below i (omega arith) ];
      there = λ p. digit-suc x t ∙ l.there (omega arith);
    }
lowest_under k x (suc zero) t e h l =
    record { within = zero-le; below = λ i p. absurd (omega arith); there = λ p. digit_zero x ∙ e }
lowest_under k x (suc (suc d)) t e h l = absurd (omega arith)

pub lowest : (k x : ℕ) → Lowest k x (count_trailing_zeros k x)
unfolding count_trailing_zeros
lowest zero x = record { within = zero-le; below = λ i p. absurd (omega arith); there = λ p. absurd (omega arith) }
lowest (suc k) x = lowest_under k x (x % 2) (count_trailing_zeros k (x / 2)) refl (omega arith) (lowest k (x / 2))

-- a number of k digits that is not 0 has one set
pub lowest_found : (k x : ℕ) → x < 2 ^ k → (x ≡ 0 → ⊥) → count_trailing_zeros k x < k
lowest_found k x h f = go (dec_le k (count_trailing_zeros k x))
  where
    go : Dec (k ≤ count_trailing_zeros k x) → count_trailing_zeros k x < k
    go (yes p) = absurd (f (sym (mod-eq_of_lt h) ∙ none_set x k (λ i l. (lowest k x).below i (lt_of_lt_of_le l p))))
    go (no n) = lt_of_not-le n

-- ---- `x & (x - 1)` drops the lowest set digit
-- above its lowest set digit, at t, a number is a multiple of 2 ^ (t + 1)
lowest_part : (x t : ℕ) → ((i : ℕ) → i < t → digit x i ≡ 0) → digit x t ≡ 1 → x ≡ x / 2 ^ suc t * 2 ^ suc t + 2 ^ t
lowest_part x t h e =
    sym (split x (suc t))
    ∙ ap (λ (n : ℕ). x / 2 ^ suc t * 2 ^ suc t + n) (more_digits x t ∙ ap₂ (λ (p q : ℕ). p * 2 ^ t + q) e (none_set x t h) ∙ (let z : 1 * 2 ^ t + 0 ≡ 2 ^ t = omega arith in z))

pub drop_lowest : (x t : ℕ) → ((i : ℕ) → i < t → digit x i ≡ 0) → digit x t ≡ 1 → bit_and x (x - 1) ≡ x / 2 ^ suc t * 2 ^ suc t
drop_lowest x t h e =
    let q : ℕ = x / 2 ^ suc t in
    let a : x ≡ q * 2 ^ suc t + 2 ^ t = lowest_part x t h e in
    let b : x - 1 ≡ q * 2 ^ suc t + (2 ^ t - 1) = omega (arith, pow_pos t, a) in
    (λ i. bit_and (a i) (b i))
    ∙ and_block (suc t) q q (2 ^ t) (2 ^ t - 1) (pow-lt (lt-suc_self t)) (lt_of_le_of_lt (sub-le (2 ^ t) 1) (pow-lt (lt-suc_self t)))
    ∙ ap₂ (λ (m n : ℕ). m * 2 ^ suc t + n) (and_self q) (and_mask (2 ^ t) t ∙ mod_self (2 ^ t))
    ∙ add-zero (q * 2 ^ suc t)

-- a number with its k low digits dropped
pub digit_dropped_low : (x k i : ℕ) → i < k → digit (x / 2 ^ k * 2 ^ k) i ≡ 0
digit_dropped_low x k i h =
    sym (digit_low (x / 2 ^ k * 2 ^ k) i k h) ∙ ap (λ (n : ℕ). digit n i) (mul-mod_left (x / 2 ^ k) (2 ^ k)) ∙ digit_none i

pub digit_dropped_high : (x k i : ℕ) → k ≤ i → digit (x / 2 ^ k * 2 ^ k) i ≡ digit x i
digit_dropped_high x k i h =
    let e : k + (i - k) ≡ i = omega arith in
    let y : ℕ = x / 2 ^ k * 2 ^ k in
    ap (digit y) (sym e) ∙ sym (digit-shr y k (i - k)) ∙ ap (λ (n : ℕ). digit n (i - k)) (shl-shr (x / 2 ^ k) k) ∙ digit-shr x k (i - k) ∙ ap (digit x) e
