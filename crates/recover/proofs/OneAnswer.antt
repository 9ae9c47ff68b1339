-- Two answers that say the same are the same. Assumes nothing.
use mathlib.Core.Path.{◌≡◌, refl}
use Prim.Native.Nat.{ℕ}
use native.Mathlib.Omega.{arith}
use Rattle.std.specs.Prelude.{Result, Ok, Err}
use Rattle.answers.specs.declared.Refusal.{Refusal}
use Rattle.answers.proofs.Laws.{refusal_one}
use Rattle.recover.specs.Replay.{stepped_said, recovered_said}
use Rattle.recover.specs.declared.Stepped.{Stepped}
use Rattle.recover.specs.declared.Stepped.TheVariants as stepped
use Rattle.recover.specs.declared.Recovered.{Recovered}
use Rattle.recover.specs.declared.Recovered.TheVariants as recovered

pub one_stepped : (a b : Result Stepped Refusal) → stepped_said a ≡ stepped_said b → a ≡ b
one_stepped (Ok (stepped.Cleared p)) (Ok (stepped.Cleared p')) e = let fp : p ≡ p' = cc in cc
one_stepped (Ok (stepped.Cleared p)) (Ok (stepped.Updated p')) e = let z : ◌≡◌ {A = ℕ} 0 1 = cc in absurd (omega arith)
one_stepped (Ok (stepped.Cleared p)) (Ok stepped.End) e = let z : ◌≡◌ {A = ℕ} 0 1 = cc in absurd (omega arith)
one_stepped (Ok (stepped.Cleared p)) (Err r') e = let z : ◌≡◌ {A = ℕ} 0 1 = cc in absurd (omega arith)
one_stepped (Ok (stepped.Updated p)) (Ok (stepped.Cleared p')) e = let z : ◌≡◌ {A = ℕ} 0 1 = cc in absurd (omega arith)
one_stepped (Ok (stepped.Updated p)) (Ok (stepped.Updated p')) e = let fp : p ≡ p' = cc in cc
one_stepped (Ok (stepped.Updated p)) (Ok stepped.End) e = let z : ◌≡◌ {A = ℕ} 0 1 = cc in absurd (omega arith)
one_stepped (Ok (stepped.Updated p)) (Err r') e = let z : ◌≡◌ {A = ℕ} 0 1 = cc in absurd (omega arith)
one_stepped (Ok stepped.End) (Ok (stepped.Cleared p')) e = let z : ◌≡◌ {A = ℕ} 0 1 = cc in absurd (omega arith)
one_stepped (Ok stepped.End) (Ok (stepped.Updated p')) e = let z : ◌≡◌ {A = ℕ} 0 1 = cc in absurd (omega arith)
one_stepped (Ok stepped.End) (Ok stepped.End) e = refl
one_stepped (Ok stepped.End) (Err r') e = let z : ◌≡◌ {A = ℕ} 0 1 = cc in absurd (omega arith)
one_stepped (Err r) (Ok (stepped.Cleared p')) e = let z : ◌≡◌ {A = ℕ} 0 1 = cc in absurd (omega arith)
one_stepped (Err r) (Ok (stepped.Updated p')) e = let z : ◌≡◌ {A = ℕ} 0 1 = cc in absurd (omega arith)
one_stepped (Err r) (Ok stepped.End) e = let z : ◌≡◌ {A = ℕ} 0 1 = cc in absurd (omega arith)
one_stepped (Err r) (Err r') e = let fr : r ≡ r' = refusal_one r r' cc in cc

pub one_recovered : (a b : Result Recovered Refusal) → recovered_said a ≡ recovered_said b → a ≡ b
one_recovered (Ok recovered.Nothing) (Ok recovered.Nothing) e = refl
one_recovered (Ok recovered.Nothing) (Ok recovered.Stale) e = let z : ◌≡◌ {A = ℕ} 0 1 = cc in absurd (omega arith)
one_recovered (Ok recovered.Nothing) (Ok recovered.Applied) e = let z : ◌≡◌ {A = ℕ} 0 1 = cc in absurd (omega arith)
one_recovered (Ok recovered.Nothing) (Err r') e = let z : ◌≡◌ {A = ℕ} 0 1 = cc in absurd (omega arith)
one_recovered (Ok recovered.Stale) (Ok recovered.Nothing) e = let z : ◌≡◌ {A = ℕ} 0 1 = cc in absurd (omega arith)
one_recovered (Ok recovered.Stale) (Ok recovered.Stale) e = refl
one_recovered (Ok recovered.Stale) (Ok recovered.Applied) e = let z : ◌≡◌ {A = ℕ} 0 1 = cc in absurd (omega arith)
one_recovered (Ok recovered.Stale) (Err r') e = let z : ◌≡◌ {A = ℕ} 0 1 = cc in absurd (omega arith)
one_recovered (Ok recovered.Applied) (Ok recovered.Nothing) e = let z : ◌≡◌ {A = ℕ} 0 1 = cc in absurd (omega arith)
one_recovered (Ok recovered.Applied) (Ok recovered.Stale) e = let z : ◌≡◌ {A = ℕ} 0 1 = cc in absurd (omega arith)
one_recovered (Ok recovered.Applied) (Ok recovered.Applied) e = refl
one_recovered (Ok recovered.Applied) (Err r') e = let z : ◌≡◌ {A = ℕ} 0 1 = cc in absurd (omega arith)
one_recovered (Err r) (Ok recovered.Nothing) e = let z : ◌≡◌ {A = ℕ} 0 1 = cc in absurd (omega arith)
one_recovered (Err r) (Ok recovered.Stale) e = let z : ◌≡◌ {A = ℕ} 0 1 = cc in absurd (omega arith)
one_recovered (Err r) (Ok recovered.Applied) e = let z : ◌≡◌ {A = ℕ} 0 1 = cc in absurd (omega arith)
one_recovered (Err r) (Err r') e = let fr : r ≡ r' = refusal_one r r' cc in cc
