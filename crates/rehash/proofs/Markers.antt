-- What reading a marker answers, test by test; what is written is read again. Assumes nothing.
use mathlib.Core.Path.{◌≡◌}
use mathlib.Core.Bool.{true, false}
use mathlib.Core.List.{List}
use Prim.Native.Nat.{ℕ, ◌^◌, ◌<◌}
use native.Mathlib.Omega.{arith}
use lib.Dec.{leb}
use lib.ListN.{length, take}
use borrow.Author.Tests.{lt-leb, eq-eqb, ne_eqb}
use Rattle.answers.specs.Answers.{given, refused}
use Rattle.blocks.specs.Blocks.{le, bytes_of, block, same_bytes}
use Rattle.blocks.proofs.Laws.{le-bytes_of}
use Rattle.rehash.specs.Marker.{magic, counts_of, read_answer, written_marker}

-- the answer, test by test
pub read_short : (bs : List ℕ) → (length bs ≡ 16 → ⊥) → read_answer bs ≡ refused 15
unfolding read_answer
read_short bs f = rw (ne_eqb (length bs) 16 f)

module _ (bs : List ℕ) (long : length bs ≡ 16) where
  pub read_other : same_bytes (take 8 bs) magic ≡ false → read_answer bs ≡ refused 16
  unfolding read_answer
  read_other e = rw (eq-eqb (length bs) 16 long, e)

  pub read_counts : same_bytes (take 8 bs) magic ≡ true → read_answer bs ≡ counts_of (le (block 4 bs 8)) (le (block 4 bs 12))
  unfolding read_answer
  read_counts e = rw (eq-eqb (length bs) 16 long, e)

-- what is written is read again
pub marker_read_again : (old new : ℕ) → old < new → new < 2 ^ 32 → read_answer (written_marker old new) ≡ given (record { old = old; new = new })
unfolding read_answer
marker_read_again old new l m =
    let o : le (bytes_of 4 old) ≡ old = le-bytes_of 4 old (omega arith) in
    let n : le (bytes_of 4 new) ≡ new = le-bytes_of 4 new (omega arith) in
    let t : leb new old ≡ false = lt-leb new old l in
    rw (t, o, n, t)
