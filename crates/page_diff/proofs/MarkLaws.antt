-- Laws of marks: the two words and their marks determine each other; the marks after a set, a join and a clear, and without the first.
-- Assumes nothing.
use mathlib.Core.Path.{◌≡◌, refl, sym, ap, ap₂, ◌∙◌, subst}
use mathlib.Core.Bool.{Bool, true, false, not, ◌&&◌, ◌||◌, and-true, and-false, or_comm, or-false}
use mathlib.Core.List.{List, [], ◌∷◌}
use Prim.Native.Nat.{ℕ, zero, suc, ◌+◌, ◌-◌, ◌*◌, ◌/◌, ◌%◌, ◌^◌, ◌≤◌, ◌<◌, max}
use native.Mathlib.Nat.{mod-eq_of_lt, mod-one, lt_of_not-le, lt_of_lt_of_le, lt_of_le_of_lt, not-le_of_lt, mod-lt, zero-add, pow-suc}
use native.Mathlib.Decide.{dec_le}
use native.Mathlib.Omega.{arith}
use lib.Dec.{eqb, leb}
use lib.ListN.{length, get_or, set}
use lib.Pow.{pow_pos, pow-lt, pow_mono, low, high}
use lib.Bits.{bit_and, bit_or, and_mask, or_lt, and_le_l}
use borrow.Author.Tests.{eq-eqb, ne_eqb, eqb-true, eqb-false, le-leb, lt-leb}
use Rattle.page_diff.specs.Diff.{digit, marked, one, word_of, of_marks, set_marks, reserved}
use Rattle.page_diff.proofs.Digits.{digit_lt, digit_high, digit_or, digit-pow_same, digit-pow_above, digit-pow_below, digit_low, more_digits}

-- two tests that hold together are one
pub eqb_iff : (a b c d : ℕ) → (a ≡ b → c ≡ d) → (c ≡ d → a ≡ b) → eqb a b ≡ eqb c d
eqb_iff a b c d f g = go (eqb c d) refl
  where
    go : (t : Bool) → eqb c d ≡ t → eqb a b ≡ eqb c d
    go true e = eq-eqb a b (g (eqb-true c d e)) ∙ sym e
    go false e = ne_eqb a b (λ p. eqb-false c d e (f p)) ∙ sym e

-- ---- a bit as a test
abbrev pub bit : ℕ → ℕ → Bool
bit x i = eqb (digit x i) 1

pub off : {x : ℕ} → x ≡ 0 → eqb x 1 ≡ false
off e = ap (λ (n : ℕ). eqb n 1) e

pub on : {x : ℕ} → x ≡ 1 → eqb x 1 ≡ true
on e = ap (λ (n : ℕ). eqb n 1) e

digit_one : (x i : ℕ) → digit x i ≡ one (bit x i)
digit_one x i = go (digit x i) (digit_lt x i)
  where
    go : (d : ℕ) → d < 2 → d ≡ one (eqb d 1)
    go zero h = refl
    go (suc zero) h = refl
    go (suc (suc d)) h = absurd (omega arith)

max_bit : (x y : ℕ) → x < 2 → y < 2 → eqb (max x y) 1 ≡ (eqb x 1 || eqb y 1)
max_bit zero zero h k = refl
max_bit zero (suc zero) h k = refl
max_bit zero (suc (suc y)) h k = absurd (omega arith)
max_bit (suc zero) zero h k = refl
max_bit (suc zero) (suc zero) h k = refl
max_bit (suc zero) (suc (suc y)) h k = absurd (omega arith)
max_bit (suc (suc x)) y h k = absurd (omega arith)

pub bit_or_lem : (a b i : ℕ) → bit (bit_or a b) i ≡ (bit a i || bit b i)
bit_or_lem a b i = ap (λ (n : ℕ). eqb n 1) (digit_or a b i) ∙ max_bit (digit a i) (digit b i) (digit_lt a i) (digit_lt b i)

pub bit-pow : (i j : ℕ) → bit (2 ^ i) j ≡ eqb j i
bit-pow i j = go (dec_le i j) (dec_le j i)
  where
    go : Dec (i ≤ j) → Dec (j ≤ i) → bit (2 ^ i) j ≡ eqb j i
    go (yes p) (yes q) =
        let e : j ≡ i = omega arith in
        on (ap (digit (2 ^ i)) e ∙ digit-pow_same i) ∙ sym (eq-eqb j i e)
    go (yes p) (no q) = off (digit-pow_above i j (lt_of_not-le q)) ∙ sym (ne_eqb j i (λ e. omega arith))
    go (no p) q = off (digit-pow_below i j (lt_of_not-le p)) ∙ sym (ne_eqb j i (λ e. omega arith))

-- `x | 1 << i` at 64 bits
pub bit_set : (x i j : ℕ) → i < 64 → bit (bit_or x (1 * 2 ^ i % 2 ^ 64)) j ≡ (eqb j i || bit x j)
bit_set x i j h =
    let e : 1 * 2 ^ i ≡ 2 ^ i = omega arith in
    ap (λ (n : ℕ). bit (bit_or x n) j) (mod-eq_of_lt (subst (λ (n : ℕ). n < 2 ^ 64) (sym e) (pow-lt h)) ∙ e)
    ∙ bit_or_lem x (2 ^ i) j ∙ or_comm (bit x j) (bit (2 ^ i) j) ∙ ap (λ (b : Bool). b || bit x j) (bit-pow i j)

-- `x & 0x7fff_ffff_ffff_ffff`, at a bit of the word
pub bit-drop : (x j : ℕ) → j < 64 → bit (bit_and x (2 ^ 63 - 1)) j ≡ (bit x j && not (eqb j 63))
bit-drop x j h = ap (λ (n : ℕ). bit n j) (and_mask x 63) ∙ go (dec_le 63 j)
  where
    go : Dec (63 ≤ j) → bit (x % 2 ^ 63) j ≡ (bit x j && not (eqb j 63))
    go (yes p) =
        let e : j ≡ 63 = omega arith in
        off (digit_high (x % 2 ^ 63) j (lt_of_lt_of_le (mod-lt x (pow_pos 63)) (pow_mono p)))
        ∙ sym (ap (λ (b : Bool). bit x j && not b) (eq-eqb j 63 e) ∙ and-false (bit x j))
    go (no p) =
        ap (λ (n : ℕ). eqb n 1) (digit_low x j 63 (lt_of_not-le p))
        ∙ sym (ap (λ (b : Bool). bit x j && not b) (ne_eqb j 63 (λ e. omega arith)) ∙ and-true (bit x j))

-- ---- the two words
pub mark_low : (ws : List ℕ) (s : ℕ) → s < 64 → marked ws s ≡ bit (get_or ws 0 0) s
unfolding marked
mark_low ws s h =
    let w : s / 64 ≡ 0 = omega arith in
    let i : s % 64 ≡ s = omega arith in
    ap₂ (λ (p q : ℕ). bit (get_or ws p 0) q) w i

pub mark_high : (ws : List ℕ) (s : ℕ) → 64 ≤ s → s < 128 → marked ws s ≡ bit (get_or ws 1 0) (s - 64)
unfolding marked
mark_high ws s l h =
    let w : s / 64 ≡ 1 = omega arith in
    let i : s % 64 ≡ s - 64 = omega arith in
    ap₂ (λ (p q : ℕ). bit (get_or ws p 0) q) w i

-- ---- marks determine words: a number whose digits are the marks is the number that the marks make
word_by_bits : (m : ℕ → Bool) (x from n : ℕ) → ((i : ℕ) → i < n → bit x i ≡ m (from + i)) → x % 2 ^ n ≡ word_of m from n
unfolding word_of
word_by_bits m x from zero h = mod-one x
word_by_bits m x from (suc n) h =
    more_digits x n
    ∙ ap₂ (λ (p q : ℕ). p * 2 ^ n + q) (digit_one x n ∙ ap one (h n (omega arith))) (word_by_bits m x from n (λ i l. h i (omega arith)))

pub by_marks : (m : ℕ → Bool) (ws : List ℕ) → length ws ≡ 2 → get_or ws 0 0 < 2 ^ 64 → get_or ws 1 0 < 2 ^ 64 → ((s : ℕ) → s < 128 → marked ws s ≡ m s) → ws ≡ of_marks m
unfolding of_marks
by_marks m [] e h k f = absurd (omega arith)
by_marks m (a ∷ []) e h k f = absurd (omega arith)
by_marks m (a ∷ b ∷ []) e h k f =
    let lo : a ≡ word_of m 0 64 = sym (mod-eq_of_lt h) ∙ word_by_bits m a 0 64 (λ i l.
    sym (mark_low (a ∷ b ∷ []) i l) ∙ f i (omega arith) ∙ ap m (sym (zero-add i))) in
    let hi : b ≡ word_of m 64 64 = sym (mod-eq_of_lt k) ∙ word_by_bits m b 64 64 (λ i l.
    let d : 64 + i - 64 ≡ i = omega arith in
    ap (bit b) (sym d) ∙ sym (mark_high (a ∷ b ∷ []) (64 + i) (omega arith) (omega arith)) ∙ f (64 + i) (omega arith)) in
    ap₂ (λ (p q : ℕ). p ∷ q ∷ []) lo hi
by_marks m (a ∷ b ∷ c ∷ ws) e h k f = absurd (omega arith)

-- and words made of marks have those marks
one_small : (b : Bool) → one b ≤ 1
one_small true = omega arith
one_small false = omega arith

double : (k : ℕ) → 2 ^ suc k ≡ 2 ^ k + 2 ^ k
double k = let e : 2 ^ k * 2 ≡ 2 ^ k + 2 ^ k = omega arith in pow-suc 2 k ∙ e

word_under : (b : Bool) (k x : ℕ) → x < 2 ^ k → one b * 2 ^ k + x < 2 ^ suc k
word_under true k x h = let e : 1 * 2 ^ k ≡ 2 ^ k = omega arith in omega (arith, double k)
word_under false k x h = omega (arith, double k)

word_small : (m : ℕ → Bool) (from k : ℕ) → word_of m from k < 2 ^ k
unfolding word_of
word_small m from zero = omega arith
word_small m from (suc k) = word_under (m (from + k)) k (word_of m from k) (word_small m from k)

-- the digits of a word with one more digit put on top
top_bit : (b : Bool) (k x : ℕ) → x < 2 ^ k → bit (one b * 2 ^ k + x) k ≡ b
unfolding digit
top_bit b k x h = ap (λ (n : ℕ). eqb (n % 2) 1) (high (one b) k h) ∙ test b
  where
    test : (c : Bool) → eqb (one c % 2) 1 ≡ c
    test true = refl
    test false = refl

under_bit : (b : Bool) (k x i : ℕ) → x < 2 ^ k → i < k → bit (one b * 2 ^ k + x) i ≡ bit x i
under_bit b k x i h l =
    ap (λ (n : ℕ). eqb n 1) (sym (digit_low (one b * 2 ^ k + x) i k l) ∙ ap (λ (n : ℕ). digit n i) (low (one b) k h))

word_bit : (m : ℕ → Bool) (from k i : ℕ) → i < k → bit (word_of m from k) i ≡ m (from + i)
unfolding word_of
word_bit m from zero i h = absurd (omega arith)
word_bit m from (suc k) i h = go (dec_le k i) (λ l. word_bit m from k i l)
  where
    go : Dec (k ≤ i) → (i < k → bit (word_of m from k) i ≡ m (from + i)) → bit (one (m (from + k)) * 2 ^ k + word_of m from k) i ≡ m (from + i)
    go (yes p) r =
        let e : k ≡ i = omega arith in
        subst (λ (j : ℕ). bit (one (m (from + k)) * 2 ^ k + word_of m from k) j ≡ m (from + j)) e (top_bit (m (from + k)) k (word_of m from k) (word_small m from k))
    go (no p) r = under_bit (m (from + k)) k (word_of m from k) i (word_small m from k) (lt_of_not-le p) ∙ r (lt_of_not-le p)

pub of_marks_lem : (m : ℕ → Bool) (s : ℕ) → s < 128 → marked (of_marks m) s ≡ m s
unfolding of_marks
of_marks_lem m s h = go (dec_le 64 s)
  where
    go : Dec (64 ≤ s) → marked (of_marks m) s ≡ m s
    go (yes p) =
        let e : 64 + (s - 64) ≡ s = omega arith in
        mark_high (of_marks m) s p h ∙ word_bit m 64 64 (s - 64) (omega arith) ∙ ap m e
    go (no p) = mark_low (of_marks m) s (lt_of_not-le p) ∙ word_bit m 0 64 s (lt_of_not-le p) ∙ ap m (zero-add s)

pub of_marks_low : (m : ℕ → Bool) → get_or (of_marks m) 0 0 < 2 ^ 64
unfolding of_marks
of_marks_low m = word_small m 0 64

pub of_marks_high : (m : ℕ → Bool) → get_or (of_marks m) 1 0 < 2 ^ 64
unfolding of_marks
of_marks_high m = word_small m 64 64

pub of_marks_long : (m : ℕ → Bool) → length (of_marks m) ≡ 2
unfolding of_marks
of_marks_long m = refl

-- two words, each below 2 ^ 64, with the marks m
pub two_words : (m : ℕ → Bool) (a b : ℕ) → a < 2 ^ 64 → b < 2 ^ 64 → ((s : ℕ) → s < 128 → marked (a ∷ b ∷ []) s ≡ m s) → a ∷ b ∷ [] ≡ of_marks m
two_words m a b h k f = by_marks m (a ∷ b ∷ []) refl h k f

-- the marks of two words, word by word
module _ (m : ℕ → Bool) (a b : ℕ) where
  pub by_word : ((s : ℕ) → s < 64 → bit a s ≡ m s) → ((s : ℕ) → 64 ≤ s → s < 128 → bit b (s - 64) ≡ m s) → (s : ℕ) → s < 128 → marked (a ∷ b ∷ []) s ≡ m s
  by_word f g s h = go (dec_le 64 s)
    where
      go : Dec (64 ≤ s) → marked (a ∷ b ∷ []) s ≡ m s
      go (yes p) = mark_high (a ∷ b ∷ []) s p h ∙ g s p h
      go (no p) = mark_low (a ∷ b ∷ []) s (lt_of_not-le p) ∙ f s (lt_of_not-le p)

-- ---- `join`: the words are put together by `|`
pub join_words : (xs ys : List ℕ) → get_or xs 0 0 < 2 ^ 64 → get_or xs 1 0 < 2 ^ 64 → get_or ys 0 0 < 2 ^ 64 → get_or ys 1 0 < 2 ^ 64
    → bit_or (get_or xs 0 0) (get_or ys 0 0) ∷ bit_or (get_or xs 1 0) (get_or ys 1 0) ∷ [] ≡ of_marks (λ s. marked xs s || marked ys s)
join_words xs ys h k i j =
    let m : ℕ → Bool = λ s. marked xs s || marked ys s in
    let a : ℕ = bit_or (get_or xs 0 0) (get_or ys 0 0) in
    let b : ℕ = bit_or (get_or xs 1 0) (get_or ys 1 0) in
    two_words m a b (or_lt 64 (get_or xs 0 0) (get_or ys 0 0) h i) (or_lt 64 (get_or xs 1 0) (get_or ys 1 0) k j)
    (by_word m a b
    (λ s l. bit_or_lem (get_or xs 0 0) (get_or ys 0 0) s ∙ ap₂ ◌||◌ (sym (mark_low xs s l)) (sym (mark_low ys s l)))
    (λ s l u. bit_or_lem (get_or xs 1 0) (get_or ys 1 0) (s - 64) ∙ ap₂ ◌||◌ (sym (mark_high xs s l u)) (sym (mark_high ys s l u))))

-- ---- `set_cleared`: bit 63 of the high word is set
pub cleared_words_lem : (ws : List ℕ) → get_or ws 0 0 < 2 ^ 64 → get_or ws 1 0 < 2 ^ 64 → get_or ws 0 0 ∷ bit_or (get_or ws 1 0) (2 ^ 63) ∷ [] ≡ of_marks (λ s. marked ws s || eqb s 127)
cleared_words_lem ws h k =
    let m : ℕ → Bool = λ s. marked ws s || eqb s 127 in
    let b : ℕ = bit_or (get_or ws 1 0) (2 ^ 63) in
    two_words m (get_or ws 0 0) b h (or_lt 64 (get_or ws 1 0) (2 ^ 63) k (omega arith))
    (by_word m (get_or ws 0 0) b
    (λ s l. sym (mark_low ws s l) ∙ sym (ap (λ (t : Bool). marked ws s || t) (ne_eqb s 127 (λ e. omega arith)) ∙ or-false (marked ws s)))
    (λ s l u. bit_or_lem (get_or ws 1 0) (2 ^ 63) (s - 64)
    ∙ ap₂ ◌||◌ (sym (mark_high ws s l u)) (bit-pow 63 (s - 64) ∙ eqb_iff (s - 64) 63 s 127 (λ e. omega arith) (λ e. omega arith))))

-- ---- `set_changed`: what the code writes
abbrev pub set_code : List ℕ → ℕ → List ℕ
set_code ws t =
    let us : List ℕ = set ws (t / 64) (bit_or (get_or ws (t / 64) 0) (1 * 2 ^ (t % 64) % 2 ^ 64)) in
    set us 1 (bit_and (get_or us 1 0) (2 ^ 63 - 1))

module _ (a b t : ℕ) (ha : a < 2 ^ 64) (hb : b < 2 ^ 64) where
  -- where slot s is not 127, nothing is dropped
  kept : (s : ℕ) (x : Bool) → (s ≡ 127 → ⊥) → x ≡ (x && not (eqb s 127))
  kept s x n = sym (ap (λ (c : Bool). x && not c) (ne_eqb s 127 n) ∙ and-true x)

  -- where slot s is not the one that is set, only the drop counts
  other : (s : ℕ) (x : Bool) → (s ≡ t → ⊥) → x ≡ (eqb s t || x)
  other s x n = sym (ap (λ (c : Bool). c || x) (ne_eqb s t n))

  -- the slot lies in the low word
  set_low : t < 64 → bit_or a (1 * 2 ^ t % 2 ^ 64) ∷ bit_and b (2 ^ 63 - 1) ∷ [] ≡ of_marks (set_marks (a ∷ b ∷ []) t)
  set_low h =
      let m : ℕ → Bool = set_marks (a ∷ b ∷ []) t in
      let x : ℕ = bit_or a (1 * 2 ^ t % 2 ^ 64) in
      let y : ℕ = bit_and b (2 ^ 63 - 1) in
      two_words m x y (or_lt 64 a (1 * 2 ^ t % 2 ^ 64) ha (mod-lt (1 * 2 ^ t) (pow_pos 64))) (lt_of_le_of_lt (and_le_l b (2 ^ 63 - 1)) hb)
      (by_word m x y
      (λ s l. bit_set a t s h ∙ ap (λ (c : Bool). eqb s t || c) (sym (mark_low (a ∷ b ∷ []) s l) ∙ kept s (marked (a ∷ b ∷ []) s) (λ e. omega arith)))
      (λ s l u. bit-drop b (s - 64) (omega arith)
      ∙ ap₂ (λ (c d : Bool). c && not d) (sym (mark_high (a ∷ b ∷ []) s l u)) (eqb_iff (s - 64) 63 s 127 (λ e. omega arith) (λ e. omega arith))
      ∙ other s (marked (a ∷ b ∷ []) s && not (eqb s 127)) (λ e. omega arith)))

  -- the slot lies in the high word
  set_high : 64 ≤ t → t ≤ 125 → a ∷ bit_and (bit_or b (1 * 2 ^ (t - 64) % 2 ^ 64)) (2 ^ 63 - 1) ∷ [] ≡ of_marks (set_marks (a ∷ b ∷ []) t)
  set_high l h =
      let m : ℕ → Bool = set_marks (a ∷ b ∷ []) t in
      let z : ℕ = bit_or b (1 * 2 ^ (t - 64) % 2 ^ 64) in
      let y : ℕ = bit_and z (2 ^ 63 - 1) in
      two_words m a y ha (lt_of_le_of_lt (and_le_l z (2 ^ 63 - 1)) (or_lt 64 b (1 * 2 ^ (t - 64) % 2 ^ 64) hb (mod-lt (1 * 2 ^ (t - 64)) (pow_pos 64))))
      (by_word m a y
      (λ s u. sym (mark_low (a ∷ b ∷ []) s u) ∙ kept s (marked (a ∷ b ∷ []) s) (λ e. omega arith)
      ∙ other s (marked (a ∷ b ∷ []) s && not (eqb s 127)) (λ e. omega arith))
      (λ s u v. bit-drop z (s - 64) (omega arith)
      ∙ ap₂ (λ (c d : Bool). c && not d)
      (bit_set b (t - 64) (s - 64) (omega arith)
      ∙ ap₂ ◌||◌ (eqb_iff (s - 64) (t - 64) s t (λ e. omega arith) (λ e. omega arith)) (sym (mark_high (a ∷ b ∷ []) s u v)))
      (eqb_iff (s - 64) 63 s 127 (λ e. omega arith) (λ e. omega arith))
      ∙ keep s (eqb s t) (marked (a ∷ b ∷ []) s) refl))
    where
      keep : (s : ℕ) (c x : Bool) → eqb s t ≡ c → ((c || x) && not (eqb s 127)) ≡ (c || (x && not (eqb s 127)))
      keep s true x e = let q : s ≡ t = eqb-true s t e in ap not (ne_eqb s 127 (λ p. omega arith))
      keep s false x e = refl

pub set_words : (ws : List ℕ) (t : ℕ) → length ws ≡ 2 → get_or ws 0 0 < 2 ^ 64 → get_or ws 1 0 < 2 ^ 64 → t ≤ 125 → set_code ws t ≡ of_marks (set_marks ws t)
set_words [] t e ha hb h = absurd (omega arith)
set_words (a ∷ []) t e ha hb h = absurd (omega arith)
set_words (a ∷ b ∷ []) t e ha hb h = go (dec_le 64 t)
  where
    go : Dec (64 ≤ t) → set_code (a ∷ b ∷ []) t ≡ of_marks (set_marks (a ∷ b ∷ []) t)
    go (yes p) =
        let w : t / 64 ≡ 1 = omega arith in
        let i : t % 64 ≡ t - 64 = omega arith in
        rw (w, i) (set_high a b t ha hb p h)
    go (no p) =
        let w : t / 64 ≡ 0 = omega arith in
        let i : t % 64 ≡ t = omega arith in
        rw (w, i) (set_low a b t ha hb (lt_of_not-le p))
set_words (a ∷ b ∷ c ∷ ws) t e ha hb h = absurd (omega arith)

-- ---- bits 126 and 127 as tests of the high word
zero_digit : (d : ℕ) → d < 2 → eqb d 1 ≡ false → d ≡ 0
zero_digit zero h e = refl
zero_digit (suc zero) h e = absurd (eqb-false 1 1 e refl)
zero_digit (suc (suc d)) h e = absurd (omega arith)

-- where the digit at n is 0, the remainders by 2 ^ (n + 1) and by 2 ^ n are the same
without : (y n : ℕ) → bit y n ≡ false → y % 2 ^ suc n ≡ y % 2 ^ n
without y n e =
    more_digits y n ∙ ap (λ (d : ℕ). d * 2 ^ n + y % 2 ^ n) (zero_digit (digit y n) (digit_lt y n) e) ∙ (let z : 0 * 2 ^ n + y % 2 ^ n ≡ y % 2 ^ n = omega arith in z)

-- bit 63 is set exactly where the word reaches 2 ^ 63
pub top_bit_test : (y : ℕ) → y < 2 ^ 64 → leb (2 ^ 63) y ≡ bit y 63
top_bit_test y h = go (bit y 63) refl (dec_le (2 ^ 63) y)
  where
    go : (b : Bool) → bit y 63 ≡ b → Dec (2 ^ 63 ≤ y) → leb (2 ^ 63) y ≡ bit y 63
    go true e (yes p) = le-leb (2 ^ 63) y p ∙ sym e
    go false e (yes p) =
        absurd (not-le_of_lt (subst (λ (n : ℕ). n < 2 ^ 63) (sym (without y 63 e) ∙ mod-eq_of_lt h) (mod-lt y (pow_pos 63))) p)
    go b e (no p) = lt-leb (2 ^ 63) y (lt_of_not-le p) ∙ sym (off (digit_high y 63 (lt_of_not-le p)))

-- bit 62 or bit 63 is set exactly where it reaches 2 ^ 62
pub top_two_test : (y : ℕ) → y < 2 ^ 64 → leb (2 ^ 62) y ≡ (bit y 62 || bit y 63)
top_two_test y h = go (bit y 62) (bit y 63) refl refl (dec_le (2 ^ 62) y)
  where
    go : (a b : Bool) → bit y 62 ≡ a → bit y 63 ≡ b → Dec (2 ^ 62 ≤ y) → leb (2 ^ 62) y ≡ (bit y 62 || bit y 63)
    go true b e f (yes p) = le-leb (2 ^ 62) y p ∙ sym (ap (λ (c : Bool). c || bit y 63) e)
    go false true e f (yes p) = le-leb (2 ^ 62) y p ∙ sym (ap₂ ◌||◌ e f)
    go false false e f (yes p) =
        absurd (not-le_of_lt (subst (λ (n : ℕ). n < 2 ^ 62) (sym (without y 62 e) ∙ sym (without y 63 f) ∙ mod-eq_of_lt h) (mod-lt y (pow_pos 62))) p)
    go a b e f (no p) =
        lt-leb (2 ^ 62) y (lt_of_not-le p)
        ∙ sym (ap₂ ◌||◌ (off (digit_high y 62 (lt_of_not-le p))) (off (digit_high y 63 (omega arith))))

pub cleared_test : (ws : List ℕ) → get_or ws 1 0 < 2 ^ 64 → leb (2 ^ 63) (get_or ws 1 0) ≡ marked ws 127
cleared_test ws h = top_bit_test (get_or ws 1 0) h ∙ sym (mark_high ws 127 (omega arith) (omega arith))

pub reserved_test : (ws : List ℕ) → get_or ws 1 0 < 2 ^ 64 → leb (2 ^ 62) (get_or ws 1 0) ≡ reserved ws
reserved_test ws h =
    top_two_test (get_or ws 1 0) h ∙ ap₂ ◌||◌ (sym (mark_high ws 126 (omega arith) (omega arith))) (sym (mark_high ws 127 (omega arith) (omega arith)))
