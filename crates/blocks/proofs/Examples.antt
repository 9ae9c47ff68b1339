-- 01, 'Log': "Little-endian": numbers and blocks out of a slice and into one, in literals. Assumes nothing.
use mathlib.Core.Path.{◌≡◌, refl}
use mathlib.Core.List.{List, [], ◌∷◌}
use Prim.Native.Nat.{ℕ, ◌+◌, ◌*◌, ◌-◌, ◌^◌}
use Rattle.blocks.specs.Blocks.{le, bytes_of, block, put, tabulate}

-- the lowest byte first
pub numbers : le (0x78 ∷ 0x56 ∷ 0x34 ∷ 0x12 ∷ []) ∷ le (0xF0 ∷ 0xDE ∷ 0xBC ∷ 0x9A ∷ 0x78 ∷ 0x56 ∷ 0x34 ∷ 0x12 ∷ []) ∷ [] ≡ 0x12345678 ∷ 0x123456789ABCDEF0 ∷ []
numbers = refl

pub bytes : bytes_of 4 0x12345678 ∷ bytes_of 8 0x12345678 ∷ bytes_of 8 (2 ^ 64 - 1) ∷ []
    ≡ (0x78 ∷ 0x56 ∷ 0x34 ∷ 0x12 ∷ []) ∷ (0x78 ∷ 0x56 ∷ 0x34 ∷ 0x12 ∷ 0 ∷ 0 ∷ 0 ∷ 0 ∷ []) ∷ (0xFF ∷ 0xFF ∷ 0xFF ∷ 0xFF ∷ 0xFF ∷ 0xFF ∷ 0xFF ∷ 0xFF ∷ []) ∷ []
bytes = refl

-- out of six bytes and into them, at the last place that will do and at one more: "past the slice's end zeros are read
-- and nothing is written"
abbrev six : List ℕ
six = 1 ∷ 2 ∷ 3 ∷ 4 ∷ 5 ∷ 6 ∷ []

pub blocks : block 4 six 1 ∷ block 4 six 2 ∷ block 4 six 3 ∷ put six 1 (7 ∷ 8 ∷ 9 ∷ 10 ∷ []) ∷ put six 2 (7 ∷ 8 ∷ 9 ∷ 10 ∷ []) ∷ put six 3 (7 ∷ 8 ∷ 9 ∷ 10 ∷ []) ∷ []
    ≡ (2 ∷ 3 ∷ 4 ∷ 5 ∷ []) ∷ (3 ∷ 4 ∷ 5 ∷ 6 ∷ []) ∷ (0 ∷ 0 ∷ 0 ∷ 0 ∷ []) ∷ (1 ∷ 7 ∷ 8 ∷ 9 ∷ 10 ∷ 6 ∷ []) ∷ (1 ∷ 2 ∷ 7 ∷ 8 ∷ 9 ∷ 10 ∷ []) ∷ six ∷ []
unfolding block put
blocks = refl

pub table : tabulate (λ i. i * i + 1) 4 ≡ 1 ∷ 2 ∷ 5 ∷ 10 ∷ []
unfolding tabulate
table = refl
