-- Two answers that say the same are the same. Assumes nothing.
use mathlib.Core.Path.{◌≡◌, ap, ap₂}
use Prim.Native.Nat.{ℕ}
use native.Mathlib.Omega.{arith}
use Rattle.std.specs.Prelude.{Result, Ok, Err}
use Rattle.answers.specs.declared.Refusal.{Refusal}
use Rattle.answers.proofs.Laws.{refusal_one, given_one}
use Rattle.sync.specs.Change.{taken_said}
use Rattle.sync.specs.Sync.{run_said, synced_said}
use Rattle.sync.specs.declared.SyncRefusal.{SyncRefusal}
use Rattle.sync.specs.declared.SyncRefusal.TheVariants.{Refused, RefusedAt}
use Rattle.sync.specs.declared.SyncState.{SyncState}
use Rattle.sync.specs.declared.Synced.{Synced}
use Rattle.sync.specs.declared.Taken.{Taken}

pub one_taken : (a b : Result Taken Refusal) → taken_said a ≡ taken_said b → a ≡ b
one_taken (Ok t) (Ok u) e =
    let q = given_one (t.bucket, t.page) (u.bucket, u.page) e in
    let f : t.bucket ≡ u.bucket = ap (λ (x : ℕ × ℕ). x.0) q in
    let g : t.page ≡ u.page = ap (λ (x : ℕ × ℕ). x.1) q in
    ap₂ (λ (x y : ℕ). Ok record { bucket = x; page = y }) f g
one_taken (Ok t) (Err s) e = let z : ◌≡◌ {A = ℕ} 0 1 = cc in absurd (omega arith)
one_taken (Err r) (Ok u) e = let z : ◌≡◌ {A = ℕ} 0 1 = cc in absurd (omega arith)
one_taken (Err r) (Err s) e = let f : r ≡ s = refusal_one r s cc in cc

pub one_synced : (a b : Result Synced SyncRefusal) → synced_said a ≡ synced_said b → a ≡ b
one_synced (Ok x) (Ok y) e =
    let f : x.occupied ≡ y.occupied = cc in
    let g : x.length ≡ y.length = cc in
    ap₂ (λ (o l : ℕ). Ok record { occupied = o; length = l }) f g
one_synced (Ok x) (Err (Refused s)) e = let z : ◌≡◌ {A = ℕ} 0 1 = cc in absurd (omega arith)
one_synced (Ok x) (Err (RefusedAt i s)) e = let z : ◌≡◌ {A = ℕ} 0 1 = cc in absurd (omega arith)
one_synced (Err (Refused r)) (Ok y) e = let z : ◌≡◌ {A = ℕ} 0 1 = cc in absurd (omega arith)
one_synced (Err (Refused r)) (Err (Refused s)) e = let f : r ≡ s = refusal_one r s cc in cc
one_synced (Err (Refused r)) (Err (RefusedAt i s)) e = let z : ◌≡◌ {A = ℕ} 0 1 = cc in absurd (omega arith)
one_synced (Err (RefusedAt j r)) (Ok y) e = let z : ◌≡◌ {A = ℕ} 0 1 = cc in absurd (omega arith)
one_synced (Err (RefusedAt j r)) (Err (Refused s)) e = let z : ◌≡◌ {A = ℕ} 0 1 = cc in absurd (omega arith)
one_synced (Err (RefusedAt j r)) (Err (RefusedAt i s)) e = let g : j ≡ i = cc in let f : r ≡ s = refusal_one r s cc in cc

pub one_run : (a b : Result SyncState SyncRefusal) → run_said a ≡ run_said b → a ≡ b
one_run (Ok s) (Ok t) e = let f : s ≡ t = cc in cc
one_run (Ok s) (Err (Refused q)) e = let z : ◌≡◌ {A = ℕ} 0 1 = cc in absurd (omega arith)
one_run (Ok s) (Err (RefusedAt i q)) e = let z : ◌≡◌ {A = ℕ} 0 1 = cc in absurd (omega arith)
one_run (Err (Refused r)) (Ok t) e = let z : ◌≡◌ {A = ℕ} 0 1 = cc in absurd (omega arith)
one_run (Err (Refused r)) (Err (Refused q)) e = let f : r ≡ q = refusal_one r q cc in cc
one_run (Err (Refused r)) (Err (RefusedAt i q)) e = let z : ◌≡◌ {A = ℕ} 0 1 = cc in absurd (omega arith)
one_run (Err (RefusedAt j r)) (Ok t) e = let z : ◌≡◌ {A = ℕ} 0 1 = cc in absurd (omega arith)
one_run (Err (RefusedAt j r)) (Err (Refused q)) e = let z : ◌≡◌ {A = ℕ} 0 1 = cc in absurd (omega arith)
one_run (Err (RefusedAt j r)) (Err (RefusedAt i q)) e = let g : j ≡ i = cc in let f : r ≡ q = refusal_one r q cc in cc
