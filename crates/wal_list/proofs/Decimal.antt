-- A number in decimal: how long it is, and that the digits that `io` spells are it. Assumes nothing.
use mathlib.Core.Path.{◌≡◌, sym, ap, ap₂, ◌∙◌, subst}
use mathlib.Core.Bool.{Bool, cond}
use mathlib.Core.List.{List, [], ◌∷◌, ◌++◌}
use Prim.Native.Nat.{ℕ, zero, suc, ◌+◌, ◌-◌, ◌*◌, ◌/◌, ◌%◌, ◌^◌, ◌≤◌, ◌<◌}
use native.Mathlib.Nat.{pow-suc, one-le-pow, pow-le-pow_right, mod-eq_of_lt}
use native.Mathlib.Decide.{dec_le, dec_lt}
use native.Mathlib.Omega.{arith}
use lib.ListN.{length, length-append}
use borrow.Author.Tests.{lt-ltb, le-ltb}
use Rattle.io.specs.Digits.{hex_digit_ascii, last_digits, IsDigitCount}
use Rattle.wal_list.specs.Lines.{digits_in, decimal}

glyph_small : (d : ℕ) → d < 10 → hex_digit_ascii d ≡ 48 + d
glyph_small d h = ap (λ (b : Bool). cond b (48 + d) (87 + d)) (lt-ltb d 10 h)

digits_small : (f n : ℕ) → n < 10 → digits_in (suc f) n ≡ (48 + n) ∷ []
unfolding digits_in
digits_small f n h = ap (λ (b : Bool). cond b ((48 + n) ∷ []) (digits_in f (n / 10) ++ ((48 + n % 10) ∷ []))) (lt-ltb n 10 h)

digits_large : (f n : ℕ) → 10 ≤ n → digits_in (suc f) n ≡ digits_in f (n / 10) ++ ((48 + n % 10) ∷ [])
unfolding digits_in
digits_large f n h = ap (λ (b : Bool). cond b ((48 + n) ∷ []) (digits_in f (n / 10) ++ ((48 + n % 10) ∷ []))) (le-ltb n 10 h)

-- ---- length
digits_most : (f n : ℕ) → length (digits_in f n) ≤ f
unfolding digits_in
digits_most zero n = omega arith
digits_most (suc f) n = go (dec_lt n 10) (digits_most f (n / 10))
  where
    go : Dec (n < 10) → length (digits_in f (n / 10)) ≤ f → length (digits_in (suc f) n) ≤ suc f
    go (yes p) r = omega (arith, ap length (digits_small f n p))
    go (no p) r = omega (arith, ap length (digits_large f n (omega arith)), length-append (digits_in f (n / 10)) ((48 + n % 10) ∷ []))

pub decimal-length : (n : ℕ) → length (decimal n) ≤ 20
decimal-length n = digits_most 20 n

-- as many as the number has, where that is less than the bound
digits_few : (f k n : ℕ) → n < 10 ^ suc k → length (digits_in f n) ≤ suc k
unfolding digits_in
digits_few zero k n h = omega arith
digits_few (suc f) zero n h = omega (arith, ap length (digits_small f n (omega arith)))
digits_few (suc f) (suc k) n h = go (dec_lt n 10) (digits_few f k (n / 10) (omega (arith, pow-suc 10 (suc k))))
  where
    go : Dec (n < 10) → length (digits_in f (n / 10)) ≤ suc k → length (digits_in (suc f) n) ≤ suc (suc k)
    go (yes p) r = omega (arith, ap length (digits_small f n p))
    go (no p) r = omega (arith, ap length (digits_large f n (omega arith)), length-append (digits_in f (n / 10)) ((48 + n % 10) ∷ []))

-- an offset has at most 5 digits
pub offset-length : (n : ℕ) → n ≤ 65536 → length (decimal n) ≤ 5
offset-length n h = digits_few 20 4 n (omega arith)

-- ---- the digits that `io` spells: as many as are needed
-- a number of k + 2 digits has k + 1 without the last
fewer : (k n : ℕ) → IsDigitCount 10 1 n (suc (suc k)) → (10 ≤ n) × IsDigitCount 10 1 (n / 10) (suc k)
fewer k n (a, b, c) =
    let e : suc (suc k) - 1 ≡ suc k = omega arith in
    let f : k ≡ suc k - 1 = omega arith in
    let p : 10 ^ suc k ≡ 10 ^ k * 10 = pow-suc 10 k in
    let q : 10 ^ suc (suc k) ≡ 10 ^ suc k * 10 = pow-suc 10 (suc k) in
    let low : 10 ^ suc k ≤ n = subst (λ (m : ℕ). 10 ^ m ≤ n) e (c (omega arith)) in
    let one : 1 ≤ 10 ^ k = one-le-pow k 10 (omega arith) in
    let small : 10 ^ k ≤ n / 10 = omega arith in
    (omega arith, (omega arith, omega arith, λ _. subst (λ (m : ℕ). 10 ^ m ≤ n / 10) f small))

-- with as many digits as are needed, the bound does not matter
spelt_in : (k f n : ℕ) → IsDigitCount 10 1 n (suc k) → k ≤ f → last_digits 10 (suc k) n ≡ digits_in (suc f) n
spelt_in zero f n (a, b, c) l =
    let s : n < 10 = omega arith in
    let m : n % 10 ≡ n = mod-eq_of_lt s in
    ap (λ (d : ℕ). hex_digit_ascii d ∷ []) m ∙ ap (λ (d : ℕ). d ∷ []) (glyph_small n s) ∙ sym (digits_small f n s)
spelt_in (suc k) zero n h l = absurd (omega arith)
spelt_in (suc k) (suc f) n h l =
    let r = fewer k n h in
    ap₂ (λ (x : List ℕ) (d : ℕ). x ++ (d ∷ [])) (spelt_in k f (n / 10) r.1 (omega arith)) (glyph_small (n % 10) (omega arith)) ∙ sym (digits_large (suc f) n r.0)

-- a number of 64 bits needs at most 20 digits
pub few : (n k : ℕ) → n < 2 ^ 64 → IsDigitCount 10 1 n k → k ≤ 20
few n k l (a, b, c) = go (dec_le k 20)
  where
    go : Dec (k ≤ 20) → k ≤ 20
    go (yes p) = p
    go (no p) =
        let above : 20 ≤ k - 1 = omega arith in
        let large : 10 ^ 20 ≤ 10 ^ (k - 1) = pow-le-pow_right {n = 10} (omega arith) above in
        absurd (omega (arith, c (omega arith)))

pub spelt : (n k : ℕ) → n < 2 ^ 64 → IsDigitCount 10 1 n k → last_digits 10 k n ≡ decimal n
spelt n zero l h = absurd (omega arith)
spelt n (suc k) l h = spelt_in k 19 n h (omega (arith, few n (suc k) l h))
