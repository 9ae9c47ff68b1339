-- 01, 'Growth': the marker of a growth that is under way. Assumes nothing.
use Rattle.std.specs.Prelude.{Result, Ok, Err, cond, List, [], ◌∷◌, ◌++◌, ℕ, leb, eqb, length, replicate, take}
use Rattle.answers.specs.Answers.{Answer, given, refused}
use Rattle.answers.specs.Refusals.{number_of}
use Rattle.blocks.specs.Blocks.{le, bytes_of, block, same_bytes}
use Rattle.answers.specs.declared.Refusal.{Refusal}
use Rattle.rehash.specs.declared.Marker.{Marker}

-- "NOMTRH1" and a zero byte
abbrev pub magic : List ℕ
magic = 0x4E ∷ 0x4F ∷ 0x4D ∷ 0x54 ∷ 0x52 ∷ 0x48 ∷ 0x31 ∷ 0x00 ∷ []

-- "marker = "NOMTRH1" and a zero byte, old u32, new u32"
abbrev pub marker : ℕ → ℕ → List ℕ
marker old new = magic ++ bytes_of 4 old ++ bytes_of 4 new

-- "Marker reading: 15, 16, 17; writing: 17"; 17: "new at most old"
abbrev pub write_answer : ℕ → ℕ → Answer (Unit {0})
write_answer old new = cond (leb new old) (refused 17) (given tt)

-- the bytes of a marker that is written; in the C interface zeros where none is
abbrev pub written_marker : ℕ → ℕ → List ℕ
written_marker old new = cond (leb new old) (replicate 16 0) (marker old new)

-- the two bucket counts of a marker
pub record Counts : Type 0 where
  pub old : ℕ
  pub new : ℕ

abbrev pub counts_of : ℕ → ℕ → Answer Counts
counts_of old new = cond (leb new old) (refused 17) (given (record { old = old; new = new }))

unfoldable pub read_answer : List ℕ → Answer Counts
unfolding same_bytes block
read_answer bs =
    cond (eqb (length bs) 16)
    (cond (same_bytes (take 8 bs) magic) (counts_of (le (block 4 bs 8)) (le (block 4 bs 12))) (refused 16))
    (refused 15)

abbrev pub marker_said : Result Marker Refusal → Answer Counts
marker_said (Ok m) = given (record { old = m.old; new = m.new })
marker_said (Err r) = refused (number_of r)
