-- Replay's tests, one after the other; and the image that an answer leaves. Assumes nothing.
use mathlib.Core.Path.{◌≡◌, refl, sym, ap, ◌∙◌}
use mathlib.Core.Bool.{Bool, true, false, cond}
use mathlib.Core.List.{List}
use Prim.Native.Nat.{ℕ}
use native.Mathlib.Omega.{arith}
use lib.Dec.{eqb}
use lib.ListN.{length}
use borrow.Author.Tests.{eq-eqb, ne_eqb}
use Rattle.std.specs.Prelude.{Result, Ok, Err}
use Rattle.answers.specs.Answers.{Answer, given, refused}
use Rattle.answers.specs.declared.Refusal.{Refusal}
use Rattle.ht_file.specs.Places.{image_fits, if_table}
use Rattle.ht_file.proofs.Laws.{table_unfit}
use Rattle.wal.specs.Reader.{start_of}
use Rattle.wal.specs.declared.AfterEnd.{AfterEnd}
use Rattle.recover.specs.declared.Expected.{Expected}
use Rattle.recover.specs.Replay.{Did, nothing, stale, applied, check_answer, of_store, by_sync, after_start, replay_tests, image_by, recovered_said}
use Rattle.recover.specs.declared.Recovered.{Recovered}
use Rattle.recover.specs.declared.Recovered.TheVariants as R

-- "26, log of another store, after 7 and before stale"; another sync number, a bad entry, and neither
module _ (rule : AfterEnd) (n : ℕ) (log : List ℕ) (s : ℕ) (want : Expected) (hashes : ℕ) where
  abbrev after : Answer Did
  after = after_start (given s) log want (check_answer rule n log hashes)

  pub other_store : of_store log want.seed ≡ false → refused 26 ≡ after_start (given s) log want (check_answer rule n log hashes)
  other_store e = sym (ap (λ (t : Bool). cond t (by_sync (eqb s want.sync) (check_answer rule n log hashes)) (refused 26)) e)

  module _ (of : of_store log want.seed ≡ true) where
    in_store : after ≡ by_sync (eqb s want.sync) (check_answer rule n log hashes)
    in_store = ap (λ (t : Bool). cond t (by_sync (eqb s want.sync) (check_answer rule n log hashes)) (refused 26)) of

    pub other_sync : (s ≡ want.sync → ⊥) → given stale ≡ after_start (given s) log want (check_answer rule n log hashes)
    other_sync d = sym (in_store ∙ ap (λ (t : Bool). by_sync t (check_answer rule n log hashes)) (ne_eqb s want.sync d) ∙ go (check_answer rule n log hashes))
      where
        go : (c : Answer (Unit {0})) → by_sync false c ≡ given stale
        go (given u) = refl
        go (refused m) = refl

module _ (rule : AfterEnd) (n image : ℕ) (log : List ℕ) (want : Expected) (hashes : ℕ) where
  abbrev began : Answer Did
  began = after_start (start_of log) log want (check_answer rule n log hashes)

  pub replay_unfit : (m : ℕ) → if_table {A = Unit {0}} (image_fits n image) (given tt) ≡ refused m → refused m ≡ replay_tests rule n image log want hashes
  unfolding replay_tests
  replay_unfit m e = table_unfit (image_fits n image) m (cond (eqb (length log) 0) (given nothing) began) e

  module _ (fits : image_fits n image ≡ true) where
    fitting : replay_tests rule n image log want hashes ≡ cond (eqb (length log) 0) (given nothing) began
    unfolding replay_tests
    fitting = ap (λ (t : Bool). cond t (cond (eqb (length log) 0) (given nothing) began) (refused 1)) fits

    pub replay_empty : length log ≡ 0 → given nothing ≡ replay_tests rule n image log want hashes
    replay_empty e = sym (fitting ∙ ap (λ (t : Bool). cond t (given nothing) began) (eq-eqb (length log) 0 e))

    -- by what the start answers
    pub replay_started : (length log ≡ 0 → ⊥) → (a : Answer ℕ) → start_of log ≡ a → after_start a log want (check_answer rule n log hashes) ≡ replay_tests rule n image log want hashes
    replay_started some a e =
        sym (fitting ∙ ap (λ (t : Bool). cond t (given nothing) began) (ne_eqb (length log) 0 some) ∙ ap (λ (x : Answer ℕ). after_start x log want (check_answer rule n log hashes)) e)

-- `applied` is answered only where the image is a table's and the whole log was checked
pub applied_told : (rule : AfterEnd) (n image : ℕ) (log : List ℕ) (want : Expected) (hashes : ℕ) → replay_tests rule n image log want hashes ≡ given applied
    → (image_fits n image ≡ true) × (check_answer rule n log hashes ≡ given tt)
unfolding replay_tests
applied_told rule n image log want hashes ok =
    go (image_fits n image) refl (eqb (length log) 0) (start_of log) (check_answer rule n log hashes) refl ok
  where
    synced : (t : Bool) (c : Answer (Unit {0})) → check_answer rule n log hashes ≡ c → by_sync t c ≡ given applied → check_answer rule n log hashes ≡ given tt
    synced true (given tt) q e = q
    synced false (given tt) q e = let z : ◌≡◌ {A = ℕ} 0 1 = cc in absurd (omega arith)
    synced true (refused k) q e = let z : ◌≡◌ {A = ℕ} 0 1 = cc in absurd (omega arith)
    synced false (refused k) q e = let z : ◌≡◌ {A = ℕ} 0 1 = cc in absurd (omega arith)

    stored : (o : Bool) (s : ℕ) (c : Answer (Unit {0})) → check_answer rule n log hashes ≡ c → cond o (by_sync (eqb s want.sync) c) (refused 26) ≡ given applied → check_answer rule n log hashes ≡ given tt
    stored true s c q e = synced (eqb s want.sync) c q e
    stored false s c q e = let z : ◌≡◌ {A = ℕ} 0 1 = cc in absurd (omega arith)

    go : (f : Bool) → image_fits n image ≡ f → (z : Bool) (s : Answer ℕ) (c : Answer (Unit {0})) → check_answer rule n log hashes ≡ c
        → cond f (cond z (given nothing) (after_start s log want c)) (refused 1) ≡ given applied → (image_fits n image ≡ true) × (check_answer rule n log hashes ≡ given tt)
    go true p false (given s) c q e = (p, stored (of_store log want.seed) s c q e)
    go true p false (refused k) c q e = let z : ◌≡◌ {A = ℕ} 0 1 = cc in absurd (omega arith)
    go true p true s c q e = let z : ◌≡◌ {A = ℕ} 0 1 = cc in absurd (omega arith)
    go false p z s c q e = let y : ◌≡◌ {A = ℕ} 0 1 = cc in absurd (omega arith)

-- every other answer leaves the image
pub others_leave : (r : Result Recovered Refusal) (image made : List ℕ) → (r ≡ Ok R.Applied → ⊥) → image ≡ image_by (recovered_said r) image made
others_leave (Ok R.Nothing) image made o = refl
others_leave (Ok R.Stale) image made o = refl
others_leave (Ok R.Applied) image made o = absurd (o refl)
others_leave (Err k) image made o = refl
