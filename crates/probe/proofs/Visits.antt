-- The visits of a hash: the triangle numbers k (k + 1) / 2 and their remainders by n, which repeat after 2 n and read the same backwards; and
-- the hits among the visits. Assumes nothing.
use mathlib.Core.Path.{◌≡◌, refl, sym, ap, ◌∙◌}
use mathlib.Core.List.{List}
use Prim.Native.Nat.{ℕ, zero, suc, ◌+◌, ◌-◌, ◌*◌, ◌/◌, ◌%◌, ◌≤◌, ◌<◌}
use native.Mathlib.Nat.{mul-suc, suc-mul, suc-add, zero-add, add_comm, add_assoc, mul_comm, mul_assoc, mul-div_right, mul-mod_right, zero-mod, mod-add-mod, add-mod-mod, add-mul-mod_self_left, mod-add-div', mul-le-mul, mod-lt, zero-lt-suc}
use native.Mathlib.Numerals.{add-one}
use native.Mathlib.Omega.{arith}
use lib.ListN.{get_or}
use Rattle.meta_map.specs.Tags.{one}
use Rattle.probe.specs.Path.{visit, visits, is_hit, hits}

-- the triangle numbers
abbrev pub tri : ℕ → ℕ
tri k = k * (k + 1) / 2

pub tri-suc : (k : ℕ) → tri (suc k) ≡ tri k + suc k
tri-suc k =
    let a : suc k * (suc k + 1) ≡ k * (k + 1) + suc k + suc k =
    ap (λ (m : ℕ). suc k * m) (add-one (suc k)) ∙ mul-suc (suc k) (suc k) ∙ ap (λ (m : ℕ). m + suc k) (suc-mul k (suc k) ∙ ap (λ (m : ℕ). k * m + suc k) (sym (add-one k))) in
    omega arith

-- below 2 ^ 21 the product fits a word
pub tri_small : (k : ℕ) → k < 2097152 → k * (k + 1) ≤ 2097152 * 2097152
tri_small k h = mul-le-mul (let a : k ≤ 2097152 = omega arith in a) (let b : k + 1 ≤ 2097152 = omega arith in b)

-- equal remainders stay equal under a sum
mod_cong : (n a x y : ℕ) → x % n ≡ y % n → (a + x) % n ≡ (a + y) % n
mod_cong n a x y e = sym (add-mod-mod a x n) ∙ ap (λ (m : ℕ). (a + m) % n) e ∙ add-mod-mod a y n

-- two rounds more change no remainder
two_rounds : (n x : ℕ) → (x + 2 * n) % n ≡ x % n
two_rounds n x = ap (λ (m : ℕ). (x + m) % n) (mul_comm 2 n) ∙ add-mul-mod_self_left x n 2

tri_twice : (n : ℕ) → tri (2 * n) % n ≡ 0
tri_twice n =
    ap (λ (m : ℕ). m / 2 % n) (mul_assoc 2 n (2 * n + 1)) ∙ ap (λ (m : ℕ). m % n) (mul-div_right (n * (2 * n + 1)) (zero-lt-suc 1)) ∙ mul-mod_right n (2 * n + 1)

tri_period : (n k : ℕ) → tri (k + 2 * n) % n ≡ tri k % n
tri_period n zero = ap (λ (m : ℕ). tri m % n) (zero-add (2 * n)) ∙ tri_twice n ∙ sym (zero-mod n)
tri_period n (suc k) =
    ap (λ (m : ℕ). m % n) (ap tri (suc-add k (2 * n)) ∙ tri-suc (k + 2 * n) ∙ add_comm (tri (k + 2 * n)) (suc (k + 2 * n)))
    ∙ mod_cong n (suc (k + 2 * n)) (tri (k + 2 * n)) (tri k) (tri_period n k)
    ∙ ap (λ (m : ℕ). m % n) (let e : suc (k + 2 * n) + tri k ≡ tri (suc k) + 2 * n = omega (arith, tri-suc k) in e)
    ∙ two_rounds n (tri (suc k))

tri_turns : (n r q : ℕ) → tri (r + q * (2 * n)) % n ≡ tri r % n
tri_turns n r zero = ap (λ (m : ℕ). tri m % n) (let e : r + 0 * (2 * n) ≡ r = omega arith in e)
tri_turns n r (suc q) =
    ap (λ (m : ℕ). tri m % n) (ap (λ (m : ℕ). r + m) (suc-mul q (2 * n)) ∙ sym (add_assoc r (q * (2 * n)) (2 * n)))
    ∙ tri_period n (r + q * (2 * n)) ∙ tri_turns n r q

-- the last of 2 n is the first, the one before it the second, and so on: j stands as far from the end as k from the start
tri_mirror : (n k j : ℕ) → suc (j + k) ≡ 2 * n → tri j % n ≡ tri k % n
tri_mirror n zero j e =
    sym (two_rounds n (tri j)) ∙ ap (λ (m : ℕ). m % n) (let q : tri j + 2 * n ≡ tri (suc j) = omega (arith, tri-suc j) in q)
    ∙ ap (λ (m : ℕ). tri m % n) (let q : suc j ≡ 2 * n = omega arith in q) ∙ tri_twice n ∙ sym (zero-mod n)
tri_mirror n (suc k) j e =
    sym (two_rounds n (tri j)) ∙ ap (λ (m : ℕ). m % n) (let q : tri j + 2 * n ≡ suc k + tri (suc j) = omega (arith, tri-suc j) in q)
    ∙ mod_cong n (suc k) (tri (suc j)) (tri k) (tri_mirror n k (suc j) (omega arith))
    ∙ ap (λ (m : ℕ). m % n) (let q : suc k + tri k ≡ tri (suc k) = omega (arith, tri-suc k) in q)

-- a visit is a bucket of the table
pub visit_below : (n h k : ℕ) → 0 < n → visit n h k < n
unfolding visit
visit_below n h k l = mod-lt (h + tri k) l

-- "It repeats after 2n visits"
pub path_repeats : (n h k : ℕ) → visit n h (k + 2 * n) ≡ visit n h k
unfolding visit
path_repeats n h k = mod_cong n h (tri (k + 2 * n)) (tri k) (tri_period n k)

pub path_turns : (n h k : ℕ) → visit n h (k % (2 * n)) ≡ visit n h k
unfolding visit
path_turns n h k =
    mod_cong n h (tri (k % (2 * n))) (tri k) (sym (tri_turns n (k % (2 * n)) (k / (2 * n))) ∙ ap (λ (m : ℕ). tri m % n) (mod-add-div' k (2 * n)))

-- visit 2n - 1 - k is visit k
pub path_mirror : (n h k : ℕ) → k < 2 * n → visit n h (2 * n - 1 - k) ≡ visit n h k
unfolding visit
path_mirror n h k l = mod_cong n h (tri (2 * n - 1 - k)) (tri k) (tri_mirror n k (2 * n - 1 - k) (omega arith))

-- the walk: from visit k's bucket, k + 1 further on is visit k + 1's
pub visit_from : (n h k : ℕ) → (h % n + tri k) % n ≡ visit n h k
unfolding visit
visit_from n h k = mod-add-mod h n (tri k)

pub visit_next : (n h k : ℕ) → (visit n h k + (k + 1)) % n ≡ visit n h (k + 1)
unfolding visit
visit_next n h k =
    mod-add-mod (h + tri k) n (k + 1)
    ∙ ap (λ (m : ℕ). m % n) (add_assoc h (tri k) (k + 1) ∙ ap (λ (m : ℕ). h + m) (ap (λ (m : ℕ). tri k + m) (add-one k) ∙ sym (tri-suc k) ∙ ap tri (sym (add-one k))))

-- one hit more where the next visit is one
pub hits_more : (ts : List ℕ) (n h k m : ℕ) → hits ts h (visits n h k (suc m)) ≡ hits ts h (visits n h k m) + one (is_hit h (get_or ts (visit n h (k + m)) 0))
unfolding visits hits
hits_more ts n h k zero =
    let e : k ≡ k + 0 = omega arith in
    ap (λ (j : ℕ). one (is_hit h (get_or ts (visit n h j) 0)) + 0) e ∙ add_comm (one (is_hit h (get_or ts (visit n h (k + 0)) 0))) 0
hits_more ts n h k (suc m) =
    let a : ℕ = one (is_hit h (get_or ts (visit n h k) 0)) in
    let e : suc k + m ≡ k + suc m = omega arith in
    ap (λ (x : ℕ). a + x) (hits_more ts n h (suc k) m ∙ ap (λ (j : ℕ). hits ts h (visits n h (suc k) m) + one (is_hit h (get_or ts (visit n h j) 0))) e)
    ∙ sym (add_assoc a (hits ts h (visits n h (suc k) m)) (one (is_hit h (get_or ts (visit n h (k + suc m)) 0))))

-- among the first k + 1 visits of the path
pub hits_next : (ts : List ℕ) (n h k : ℕ) → hits ts h (visits n h 0 (k + 1)) ≡ hits ts h (visits n h 0 k) + one (is_hit h (get_or ts (visit n h k) 0))
hits_next ts n h k =
    ap (λ (m : ℕ). hits ts h (visits n h 0 m)) (add-one k) ∙ hits_more ts n h 0 k
    ∙ ap (λ (j : ℕ). hits ts h (visits n h 0 k) + one (is_hit h (get_or ts (visit n h j) 0))) (zero-add k)

pub hits_none : (ts : List ℕ) (n h k : ℕ) → hits ts h (visits n h k 0) ≡ 0
unfolding visits hits
hits_none ts n h k = refl

-- more visits have no fewer hits
pub hits_mono : (ts : List ℕ) (n h k a d : ℕ) → hits ts h (visits n h k a) ≤ hits ts h (visits n h k (a + d))
hits_mono ts n h k a zero = let e : a ≡ a + 0 = omega arith in omega (arith, ap (λ (m : ℕ). hits ts h (visits n h k m)) e)
hits_mono ts n h k a (suc d) =
    let e : suc (a + d) ≡ a + suc d = omega arith in
    omega (arith, hits_mono ts n h k a d, hits_more ts n h k (a + d), ap (λ (m : ℕ). hits ts h (visits n h k m)) e)
