-- A promise names one answer only: two answers that say the same are the same. Assumes nothing.
use mathlib.Core.Path.{◌≡◌, refl}
use Prim.Native.Nat.{ℕ}
use native.Mathlib.Omega.{arith}
use Rattle.std.specs.Prelude.{Result, Ok, Err}
use Rattle.answers.proofs.Laws.{refusal_one, answer_one}
use Rattle.answers.specs.Answers.{answer_of}
use Rattle.answers.specs.declared.Refusal.{Refusal}
use Rattle.probe.specs.Path.{probed_said, found_said}
use Rattle.probe.specs.declared.Probed.{Probed}
use Rattle.probe.specs.declared.Probed.TheVariants as probed
use Rattle.probe.specs.declared.Found.{Found}
use Rattle.probe.specs.declared.Found.TheVariants as found

pub one_probed : (a b : Result Probed Refusal) → probed_said a ≡ probed_said b → a ≡ b
one_probed (Ok (probed.Empty b k)) (Ok (probed.Empty b' k')) e = let fb : b ≡ b' = cc in let fk : k ≡ k' = cc in cc
one_probed (Ok (probed.Empty b k)) (Ok (probed.Tombstone b' k')) e = let z : ◌≡◌ {A = ℕ} 0 1 = cc in absurd (omega arith)
one_probed (Ok (probed.Empty b k)) (Ok (probed.PossibleHit b' k')) e = let z : ◌≡◌ {A = ℕ} 0 1 = cc in absurd (omega arith)
one_probed (Ok (probed.Empty b k)) (Ok probed.Closed) e = let z : ◌≡◌ {A = ℕ} 0 1 = cc in absurd (omega arith)
one_probed (Ok (probed.Empty b k)) (Err r') e = let z : ◌≡◌ {A = ℕ} 0 1 = cc in absurd (omega arith)
one_probed (Ok (probed.Tombstone b k)) (Ok (probed.Empty b' k')) e = let z : ◌≡◌ {A = ℕ} 0 1 = cc in absurd (omega arith)
one_probed (Ok (probed.Tombstone b k)) (Ok (probed.Tombstone b' k')) e = let fb : b ≡ b' = cc in let fk : k ≡ k' = cc in cc
one_probed (Ok (probed.Tombstone b k)) (Ok (probed.PossibleHit b' k')) e = let z : ◌≡◌ {A = ℕ} 0 1 = cc in absurd (omega arith)
one_probed (Ok (probed.Tombstone b k)) (Ok probed.Closed) e = let z : ◌≡◌ {A = ℕ} 0 1 = cc in absurd (omega arith)
one_probed (Ok (probed.Tombstone b k)) (Err r') e = let z : ◌≡◌ {A = ℕ} 0 1 = cc in absurd (omega arith)
one_probed (Ok (probed.PossibleHit b k)) (Ok (probed.Empty b' k')) e = let z : ◌≡◌ {A = ℕ} 0 1 = cc in absurd (omega arith)
one_probed (Ok (probed.PossibleHit b k)) (Ok (probed.Tombstone b' k')) e = let z : ◌≡◌ {A = ℕ} 0 1 = cc in absurd (omega arith)
one_probed (Ok (probed.PossibleHit b k)) (Ok (probed.PossibleHit b' k')) e = let fb : b ≡ b' = cc in let fk : k ≡ k' = cc in cc
one_probed (Ok (probed.PossibleHit b k)) (Ok probed.Closed) e = let z : ◌≡◌ {A = ℕ} 0 1 = cc in absurd (omega arith)
one_probed (Ok (probed.PossibleHit b k)) (Err r') e = let z : ◌≡◌ {A = ℕ} 0 1 = cc in absurd (omega arith)
one_probed (Ok probed.Closed) (Ok (probed.Empty b' k')) e = let z : ◌≡◌ {A = ℕ} 0 1 = cc in absurd (omega arith)
one_probed (Ok probed.Closed) (Ok (probed.Tombstone b' k')) e = let z : ◌≡◌ {A = ℕ} 0 1 = cc in absurd (omega arith)
one_probed (Ok probed.Closed) (Ok (probed.PossibleHit b' k')) e = let z : ◌≡◌ {A = ℕ} 0 1 = cc in absurd (omega arith)
one_probed (Ok probed.Closed) (Ok probed.Closed) e = refl
one_probed (Ok probed.Closed) (Err r') e = let z : ◌≡◌ {A = ℕ} 0 1 = cc in absurd (omega arith)
one_probed (Err r) (Ok (probed.Empty b' k')) e = let z : ◌≡◌ {A = ℕ} 0 1 = cc in absurd (omega arith)
one_probed (Err r) (Ok (probed.Tombstone b' k')) e = let z : ◌≡◌ {A = ℕ} 0 1 = cc in absurd (omega arith)
one_probed (Err r) (Ok (probed.PossibleHit b' k')) e = let z : ◌≡◌ {A = ℕ} 0 1 = cc in absurd (omega arith)
one_probed (Err r) (Ok probed.Closed) e = let z : ◌≡◌ {A = ℕ} 0 1 = cc in absurd (omega arith)
one_probed (Err r) (Err r') e = let fr : r ≡ r' = refusal_one r r' cc in cc

pub one_found : (a b : Result Found Refusal) → found_said a ≡ found_said b → a ≡ b
one_found (Ok (found.At b)) (Ok (found.At b')) e = let fb : b ≡ b' = cc in cc
one_found (Ok (found.At b)) (Ok found.Absent) e = let z : ◌≡◌ {A = ℕ} 0 1 = cc in absurd (omega arith)
one_found (Ok (found.At b)) (Ok found.Closed) e = let z : ◌≡◌ {A = ℕ} 0 1 = cc in absurd (omega arith)
one_found (Ok (found.At b)) (Err r') e = let z : ◌≡◌ {A = ℕ} 0 1 = cc in absurd (omega arith)
one_found (Ok found.Absent) (Ok (found.At b')) e = let z : ◌≡◌ {A = ℕ} 0 1 = cc in absurd (omega arith)
one_found (Ok found.Absent) (Ok found.Absent) e = refl
one_found (Ok found.Absent) (Ok found.Closed) e = let z : ◌≡◌ {A = ℕ} 0 1 = cc in absurd (omega arith)
one_found (Ok found.Absent) (Err r') e = let z : ◌≡◌ {A = ℕ} 0 1 = cc in absurd (omega arith)
one_found (Ok found.Closed) (Ok (found.At b')) e = let z : ◌≡◌ {A = ℕ} 0 1 = cc in absurd (omega arith)
one_found (Ok found.Closed) (Ok found.Absent) e = let z : ◌≡◌ {A = ℕ} 0 1 = cc in absurd (omega arith)
one_found (Ok found.Closed) (Ok found.Closed) e = refl
one_found (Ok found.Closed) (Err r') e = let z : ◌≡◌ {A = ℕ} 0 1 = cc in absurd (omega arith)
one_found (Err r) (Ok (found.At b')) e = let z : ◌≡◌ {A = ℕ} 0 1 = cc in absurd (omega arith)
one_found (Err r) (Ok found.Absent) e = let z : ◌≡◌ {A = ℕ} 0 1 = cc in absurd (omega arith)
one_found (Err r) (Ok found.Closed) e = let z : ◌≡◌ {A = ℕ} 0 1 = cc in absurd (omega arith)
one_found (Err r) (Err r') e = let fr : r ≡ r' = refusal_one r r' cc in cc

pub one_allocated : (a b : Result ℕ Refusal) → answer_of a ≡ answer_of b → a ≡ b
one_allocated = answer_one
