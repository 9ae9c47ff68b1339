-- What a set past the end leaves, and what a count is where it is none; a name is fixed by what it says. Assumes nothing.
use mathlib.Core.Path.{◌≡◌, refl, sym}
use mathlib.Core.Bool.{Bool, true, false, cond}
use mathlib.Core.List.{List}
use Prim.Native.Nat.{ℕ, ◌≤◌}
use lib.ListN.{length, set}
use lib.Seq.{set_out}
use native.Mathlib.Omega.{arith}
use Rattle.std.specs.Prelude.{Result, Ok, Err, Option, None, Some}
use Rattle.std.specs.Result.{result_unwrap_or}
use Rattle.answers.specs.Answers.{given, refused, answer_of}
use Rattle.answers.specs.Refusals.{number_of}
use Rattle.answers.specs.declared.Refusal.{Refusal}
use Rattle.answers.proofs.Laws.{given_one, given_refused, refusal_one}
use Rattle.sync_parts.specs.Parts.{name_said}

-- a byte, or a cell, that is not there
pub set_past : (s : List ℕ) (i x : ℕ) → length s ≤ i → s ≡ set s i x
set_past s i x h = sym (set_out s i x h)

-- a count, or 0 where it is refused
pub counted : (t : Bool) (r : Result ℕ Refusal) (v : ℕ) → answer_of r ≡ cond t (given v) (refused 1) → result_unwrap_or r 0 ≡ cond t v 0
counted true (Ok k) v e = given_one k v e
counted true (Err r) v e = absurd (given_refused v (number_of r) (sym e))
counted false (Ok k) v e = absurd (given_refused k 1 e)
counted false (Err r) v e = refl

-- two names that say the same are the same
pub name_one : (a b : Result (Option ℕ) Refusal) → name_said a ≡ name_said b → a ≡ b
name_one (Ok (Some b)) (Ok (Some b')) e = let f : b ≡ b' = cc in cc
name_one (Ok (Some b)) (Ok None) e = let z : ◌≡◌ {A = ℕ} 0 1 = cc in absurd (omega arith)
name_one (Ok (Some b)) (Err r') e = let z : ◌≡◌ {A = ℕ} 0 1 = cc in absurd (omega arith)
name_one (Ok None) (Ok (Some b')) e = let z : ◌≡◌ {A = ℕ} 0 1 = cc in absurd (omega arith)
name_one (Ok None) (Ok None) e = refl
name_one (Ok None) (Err r') e = let z : ◌≡◌ {A = ℕ} 0 1 = cc in absurd (omega arith)
name_one (Err r) (Ok (Some b')) e = let z : ◌≡◌ {A = ℕ} 0 1 = cc in absurd (omega arith)
name_one (Err r) (Ok None) e = let z : ◌≡◌ {A = ℕ} 0 1 = cc in absurd (omega arith)
name_one (Err r) (Err r') e = let f : r ≡ r' = refusal_one r r' cc in cc
