-- The laws of little-endian numbers, of a block read, of bytes put and of a tabulated list, over any width. Assumes nothing.
use mathlib.Core.Path.{◌≡◌, refl, sym, ap, ap₂, ◌∙◌, subst}
use mathlib.Core.List.{List, [], ◌∷◌, ◌++◌, append_assoc}
use mathlib.Core.Logic.{◌⊎◌, ⊎_elim}
use Prim.Native.Nat.{ℕ, zero, suc, ◌+◌, ◌-◌, ◌*◌, ◌/◌, ◌%◌, ◌^◌, ◌≤◌, ◌<◌}
use native.Mathlib.Nat.{mod-one, mod-eq_of_lt, pow-suc, one-le-pow}
use native.Mathlib.Omega.{arith}
use lib.Arith.{mod-mul}
use lib.ListN.{length, get_or, take, drop, replicate, length-append}
use lib.Seq.{take_at, drop_at, drop-drop, length-take-le, paste}
use borrow.Author.Tests.{le-leb, lt-leb}
use lib.Dec.{leb}
use Rattle.std.proofs.lemmas.Bool.{cond-true, cond-false, cases_lt}
use Rattle.std.proofs.lemmas.Grind.{common_steps, same_number_lists}
use Rattle.blocks.specs.Blocks.{le, bytes_of, block, put, tabulate}

-- ---- numbers and their bytes

-- each element is a byte
abbrev pub AllBytes : List ℕ → Type 0
AllBytes bs = (i : ℕ) → i < length bs → get_or bs i 0 < 256

pub bytes-length : (k x : ℕ) → length (bytes_of k x) ≡ k
bytes-length zero x = refl
bytes-length (suc k) x = ap suc (bytes-length k (x / 256))

pub bytes_of_bytes : (k x : ℕ) → AllBytes (bytes_of k x)
bytes_of_bytes zero x i h = absurd (omega arith)
bytes_of_bytes (suc k) x zero h = omega arith
bytes_of_bytes (suc k) x (suc i) h = bytes_of_bytes k (x / 256) i (omega arith)

-- the lowest k bytes of a number are the number's remainder
pub le-bytes_of-mod : (k x : ℕ) → le (bytes_of k x) ≡ x % 256 ^ k
le-bytes_of-mod zero x = sym (mod-one x)
le-bytes_of-mod (suc k) x =
    omega (
      arith,
      le-bytes_of-mod k (x / 256),
      ap (λ (m : ℕ). x % m) (pow-suc 256 k),
      mod-mul x {m = 256 ^ k} {c = 256} (one-le-pow k 256 (omega arith)) (omega arith),
    )

-- 256 ^ 4 is 2 ^ 32 and 256 ^ 8 is 2 ^ 64 by computing
pub le-bytes_of : (k x : ℕ) → x < 256 ^ k → le (bytes_of k x) ≡ x
le-bytes_of k x h = le-bytes_of-mod k x ∙ mod-eq_of_lt h

pub le_bound : (bs : List ℕ) → AllBytes bs → le bs < 256 ^ length bs
le_bound [] h = omega arith
le_bound (b ∷ bs) h =
    omega (arith, h 0 (omega arith), le_bound bs (λ i l. h (suc i) (omega arith)), pow-suc 256 (length bs))

pub bytes_of-le : (bs : List ℕ) → AllBytes bs → bytes_of (length bs) (le bs) ≡ bs
bytes_of-le [] h = refl
bytes_of-le (b ∷ bs) h =
    let low : b < 256 = h 0 (omega arith) in
    let first : (b + 256 * le bs) % 256 ≡ b = omega arith in
    let rest : (b + 256 * le bs) / 256 ≡ le bs = omega arith in
    ap₂ (λ (x : ℕ) (xs : List ℕ). x ∷ xs) first (ap (bytes_of (length bs)) rest ∙ bytes_of-le bs (λ i l. h (suc i) (omega arith)))

-- ---- a block

pub block_at : (k : ℕ) (s : List ℕ) (at : ℕ) → at + k ≤ length s → block k s at ≡ take k (drop at s)
unfolding block
block_at k s at h = cond-true (leb (at + k) (length s)) (take k (drop at s)) (replicate k 0) (le-leb (at + k) (length s) h)

pub block_short : (k : ℕ) (s : List ℕ) (at : ℕ) → length s < at + k → block k s at ≡ replicate k 0
unfolding block
block_short k s at h = cond-false (leb (at + k) (length s)) (take k (drop at s)) (replicate k 0) (lt-leb (at + k) (length s) h)

pub block-length : (k : ℕ) (s : List ℕ) (at : ℕ) → length (block k s at) ≡ k
block-length k s at = grind (arith, common_steps, block_at, block_short, cases_lt (length s) (at + k))

pub block-get_or : (k : ℕ) (s : List ℕ) (at i : ℕ) → at + k ≤ length s → i < k → get_or (block k s at) i 0 ≡ get_or s (at + i) 0
block-get_or k s at i h l = grind (arith, common_steps, block_at)

-- a block of bytes is bytes
pub block_bytes : (k : ℕ) (s : List ℕ) (at : ℕ) → AllBytes s → AllBytes (block k s at)
block_bytes k s at b i h =
    let here = b (at + i) in
    grind (arith, common_steps, block-length k s at, block-get_or k s at i, block_short, here, cases_lt (length s) (at + k))

-- so a number that is read has the bytes that it was read from
pub bytes_of-block : (k : ℕ) (s : List ℕ) (at : ℕ) → AllBytes s → bytes_of k (le (block k s at)) ≡ block k s at
bytes_of-block k s at b =
    ap (λ (n : ℕ). bytes_of n (le (block k s at))) (sym (block-length k s at)) ∙ bytes_of-le (block k s at) (block_bytes k s at b)

pub le-block_bound : (k : ℕ) (s : List ℕ) (at : ℕ) → AllBytes s → le (block k s at) < 256 ^ k
le-block_bound k s at b =
    subst (λ (n : ℕ). le (block k s at) < 256 ^ n) (block-length k s at) (le_bound (block k s at) (block_bytes k s at b))

-- ---- bytes put

pub put_fits : (s : List ℕ) (at : ℕ) (bs : List ℕ) → at + length bs ≤ length s → put s at bs ≡ take at s ++ bs ++ drop (at + length bs) s
unfolding put
put_fits s at bs h = cond-true (leb (at + length bs) (length s)) (take at s ++ bs ++ drop (at + length bs) s) s (le-leb (at + length bs) (length s) h)

pub put_short : (s : List ℕ) (at : ℕ) (bs : List ℕ) → length s < at + length bs → put s at bs ≡ s
unfolding put
put_short s at bs h = cond-false (leb (at + length bs) (length s)) (take at s ++ bs ++ drop (at + length bs) s) s (lt-leb (at + length bs) (length s) h)

-- what fits is pasted whole
pub put_paste : (s : List ℕ) (at : ℕ) (bs : List ℕ) → at + length bs ≤ length s → put s at bs ≡ paste s at bs (length bs)
put_paste s at bs h = grind (arith, common_steps, put_fits)

pub put-length : (s : List ℕ) (at : ℕ) (bs : List ℕ) → length (put s at bs) ≡ length s
put-length s at bs = grind (arith, common_steps, put_fits, put_short, cases_lt (length s) (at + length bs))

pub put_in : (s : List ℕ) (at : ℕ) (bs : List ℕ) (i : ℕ) → at + length bs ≤ length s → at ≤ i → i < at + length bs → get_or (put s at bs) i 0 ≡ get_or bs (i - at) 0
put_in s at bs i h l u = grind (arith, common_steps, put_fits)

pub put_left : (s : List ℕ) (at : ℕ) (bs : List ℕ) (i : ℕ) → i < at → get_or (put s at bs) i 0 ≡ get_or s i 0
put_left s at bs i l = grind (arith, common_steps, put_fits, put_short, cases_lt (length s) (at + length bs))

pub put_right : (s : List ℕ) (at : ℕ) (bs : List ℕ) (i : ℕ) → at + length bs ≤ i → get_or (put s at bs) i 0 ≡ get_or s i 0
put_right s at bs i l = grind (arith, common_steps, put_fits, put_short, cases_lt (length s) (at + length bs))

-- bytes put among bytes are bytes
pub put_bytes : (s : List ℕ) (at : ℕ) (bs : List ℕ) → AllBytes s → AllBytes bs → AllBytes (put s at bs)
put_bytes s at bs hs hb i h =
    let kept = hs i in
    let new = hb (i - at) in
    grind (
      arith,
      put-length s at bs,
      put_left s at bs i,
      put_right s at bs i,
      put_in s at bs i,
      put_short s at bs,
      kept,
      new,
      cases_lt (length s) (at + length bs),
      cases_lt i at,
      cases_lt i (at + length bs),
    )

-- ---- a block read after bytes were put

pub block-put_same : (s : List ℕ) (at : ℕ) (bs : List ℕ) → at + length bs ≤ length s → block (length bs) (put s at bs) at ≡ bs
block-put_same s at bs h = grind (arith, common_steps, put_fits, block_at)

-- the same, where the width is known by an equation
pub block-put_sized : (k : ℕ) (s : List ℕ) (at : ℕ) (bs : List ℕ) → length bs ≡ k → at + k ≤ length s → block k (put s at bs) at ≡ bs
block-put_sized k s at bs e h = grind (arith, common_steps, put_fits, block_at)

-- a number that was put is read again
pub le-block-put : (k : ℕ) (s : List ℕ) (at x : ℕ) → at + k ≤ length s → x < 256 ^ k → le (block k (put s at (bytes_of k x)) at) ≡ x
le-block-put k s at x h l = grind (arith, bytes-length, block-put_sized, le-bytes_of)

-- a block of equally long lists that agree in its range
pub block_same : (k : ℕ) (s t : List ℕ) (a : ℕ) → length s ≡ length t → ((i : ℕ) → i < k → get_or s (a + i) 0 ≡ get_or t (a + i) 0) → block k s a ≡ block k t a
block_same k s t a e f =
    grind (arith, common_steps, same_number_lists (block k s a) (block k t a), block-length, block-get_or, block_short, f, cases_lt (length s) (a + k))

pub block-put_left : (k : ℕ) (s : List ℕ) (at : ℕ) (bs : List ℕ) (a : ℕ) → a + k ≤ at → block k (put s at bs) a ≡ block k s a
block-put_left k s at bs a h = block_same k (put s at bs) s a (put-length s at bs) (λ i l. put_left s at bs (a + i) (omega arith))

pub block-put_right : (k : ℕ) (s : List ℕ) (at : ℕ) (bs : List ℕ) (a : ℕ) → at + length bs ≤ a → block k (put s at bs) a ≡ block k s a
block-put_right k s at bs a h = block_same k (put s at bs) s a (put-length s at bs) (λ i l. put_right s at bs (a + i) (omega arith))

pub block-put_apart : (k : ℕ) (s : List ℕ) (at : ℕ) (bs : List ℕ) (a : ℕ) → (a + k ≤ at) ⊎ (at + length bs ≤ a) → block k (put s at bs) a ≡ block k s a
block-put_apart k s at bs a = ⊎_elim (block-put_left k s at bs a) (block-put_right k s at bs a)

-- ---- a tabulated list

pub tabulate-length : (f : ℕ → ℕ) (n : ℕ) → length (tabulate f n) ≡ n
unfolding tabulate
tabulate-length f zero = refl
tabulate-length f (suc n) = grind (arith, common_steps, tabulate-length f n)

pub tabulate-get_or : (f : ℕ → ℕ) (n i : ℕ) → i < n → get_or (tabulate f n) i 0 ≡ f i
unfolding tabulate
tabulate-get_or f zero i h = absurd (omega arith)
tabulate-get_or f (suc n) i h =
    let long = tabulate-length f n in
    let before = tabulate-get_or f n i in
    grind (arith, common_steps, long, before, cases_lt i n)

pub tabulate_is : (f : ℕ → ℕ) (n : ℕ) (l : List ℕ) → length l ≡ n → ((i : ℕ) → i < n → get_or l i 0 ≡ f i) → l ≡ tabulate f n
tabulate_is f n l e h = grind (arith, same_number_lists, tabulate-length, tabulate-get_or, h)

-- bytes put one part after the other are put as one
pub put-append : (s : List ℕ) (at : ℕ) (bs cs : List ℕ) → at + length bs + length cs ≤ length s → put (put s at bs) (at + length bs) cs ≡ put s at (bs ++ cs)
put-append s at bs cs h =
    let long : length (bs ++ cs) ≡ length bs + length cs = length-append bs cs in
    let head : length (take at s ++ bs) ≡ at + length bs = length-append (take at s) bs ∙ ap (λ (n : ℕ). n + length bs) (length-take-le at s (omega arith)) in
    let e : at + length bs + length cs ≡ at + length (bs ++ cs) = omega arith in
    put_fits (put s at bs) (at + length bs) cs (omega (arith, put-length s at bs))
    ∙ ap (λ (l : List ℕ). take (at + length bs) l ++ cs ++ drop (at + length bs + length cs) l) (put_fits s at bs (omega arith))
    ∙ ap₂ (λ (p q : List ℕ). p ++ cs ++ q) (take_at (take at s ++ bs) (drop (at + length bs) s) (at + length bs) head)
    (sym (drop-drop (length cs) (at + length bs) (take at s ++ bs ++ drop (at + length bs) s))
    ∙ ap (drop (length cs)) (drop_at (take at s ++ bs) (drop (at + length bs) s) (at + length bs) head)
    ∙ drop-drop (length cs) (at + length bs) s ∙ ap (λ (n : ℕ). drop n s) e)
    ∙ ap (λ (l : List ℕ). l ++ drop (at + length (bs ++ cs)) s) (append_assoc (take at s) bs cs)
    ∙ sym (put_fits s at (bs ++ cs) (omega arith))

-- two blocks that fill a part
pub put_both : (s a b : List ℕ) (k : ℕ) → k ≡ length a → length s ≡ length a + length b → put (put s 0 a) k b ≡ a ++ b
put_both s a b k e f = grind (arith, common_steps, put_fits)
