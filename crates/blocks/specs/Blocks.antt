-- 01, 'Log': "Little-endian." Numbers and blocks of bytes in a slice, over any width. Assumes nothing.
use Rattle.std.specs.Prelude.{Bool, true, false, cond, ◌&&◌, List, [], ◌∷◌, ◌++◌, ℕ, zero, suc, ◌+◌, ◌*◌, ◌/◌, ◌%◌, leb, eqb, length, take, drop, replicate}

-- the number that bytes are, the lowest byte first
abbrev pub le : List ℕ → ℕ
le [] = 0
le (b ∷ bs) = b + 256 * le bs

-- the k lowest bytes of a number, the lowest first
abbrev pub bytes_of : ℕ → ℕ → List ℕ
bytes_of zero x = []
bytes_of (suc k) x = x % 256 ∷ bytes_of k (x / 256)

-- the k bytes of s from `at` on; k zeros where s ends before that
unfoldable pub block : ℕ → List ℕ → ℕ → List ℕ
block k s at = cond (leb (at + k) (length s)) (take k (drop at s)) (replicate k 0)

-- s with the bytes bs in place of those from `at` on; s as it is where they would go past its end
unfoldable pub put : List ℕ → ℕ → List ℕ → List ℕ
put s at bs = cond (leb (at + length bs) (length s)) (take at s ++ bs ++ drop (at + length bs) s) s

-- the list of n elements whose element i is f i
unfoldable pub tabulate : (ℕ → ℕ) → ℕ → List ℕ
tabulate f zero = []
tabulate f (suc n) = tabulate f n ++ (f n ∷ [])

-- lists one after the other
unfoldable pub flat : List (List ℕ) → List ℕ
flat [] = []
flat (n ∷ ns) = n ++ flat ns

-- the same bytes
unfoldable pub same_bytes : List ℕ → List ℕ → Bool
same_bytes [] [] = true
same_bytes [] (y ∷ ys) = false
same_bytes (x ∷ xs) [] = false
same_bytes (x ∷ xs) (y ∷ ys) = eqb x y && same_bytes xs ys

-- every byte is zero
unfoldable pub all_zero : List ℕ → Bool
all_zero [] = true
all_zero (x ∷ xs) = eqb x 0 && all_zero xs
