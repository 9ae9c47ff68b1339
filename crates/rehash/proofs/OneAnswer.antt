-- A promise names one answer only: each case of the code's answers is told by what it says. Assumes nothing.
use mathlib.Core.Path.{◌≡◌, refl, sym, ap, ap₂, ◌∙◌}
use mathlib.Core.List.{List}
use Prim.Native.Nat.{ℕ}
use native.Mathlib.Omega.{arith}
use Rattle.std.specs.Prelude.{Result, Ok, Err, IfOk}
use Rattle.answers.specs.Answers.{done_of}
use Rattle.answers.specs.Refusals.{number_of}
use Rattle.answers.specs.declared.Refusal.{Refusal}
use Rattle.answers.proofs.Laws.{refusal_one, given_refused, refused_one, given_one}
use Rattle.rehash.specs.Marker.{Counts, marker_said, write_answer, written_marker}
use Rattle.rehash.specs.Pending.{Left, tidy, update_meta_then_tidy, decision_said}
use Rattle.rehash.specs.Growth.{Growth, done, nothing_to_do, grown_said}
use Rattle.rehash.specs.declared.Marker.{Marker}
use Rattle.rehash.specs.declared.Decision.{Decision}
use Rattle.rehash.specs.declared.Grown.{Grown}
use Rattle.rehash.specs.declared.Decision.TheVariants as decision
use Rattle.rehash.specs.declared.Grown.TheVariants as grown

-- what a write promises of its result
abbrev pub Written : ℕ → ℕ → Result (List ℕ) Refusal → Type 0
Written old new r = (done_of r ≡ write_answer old new) × IfOk r (λ bytes. bytes ≡ written_marker old new)

-- two markers that a write promises
pub one_written : (old new : ℕ) (r s : Result (List ℕ) Refusal) → Written old new r → Written old new s → r ≡ s
one_written old new (Ok a) (Ok b) p q = ap Ok (p.1 ∙ sym q.1)
one_written old new (Ok a) (Err t) p q = absurd (given_refused tt (number_of t) (p.0 ∙ sym q.0))
one_written old new (Err r) (Ok b) p q = absurd (given_refused tt (number_of r) (q.0 ∙ sym p.0))
one_written old new (Err r) (Err t) p q = ap Err (refusal_one r t (refused_one {A = Unit {0}} (number_of r) (number_of t) (p.0 ∙ sym q.0)))

pub one_marker : (r s : Result Marker Refusal) → marker_said r ≡ marker_said s → r ≡ s
one_marker (Ok m) (Ok k) e =
    let q = given_one {A = Counts} (record { old = m.old; new = m.new }) (record { old = k.old; new = k.new }) e in
    ap Ok (ap₂ (λ (x y : ℕ). record { old = x; new = y }) (ap (λ (c : Counts). c.old) q) (ap (λ (c : Counts). c.new) q))
one_marker (Ok m) (Err r) e = absurd (given_refused {A = Counts} (record { old = m.old; new = m.new }) (number_of r) e)
one_marker (Err r) (Ok m) e = absurd (given_refused {A = Counts} (record { old = m.old; new = m.new }) (number_of r) (sym e))
one_marker (Err r) (Err s) e = ap Err (refusal_one r s (refused_one {A = Counts} (number_of r) (number_of s) e))

pub one_decision : (r s : Result Decision Refusal) → decision_said r ≡ decision_said s → r ≡ s
one_decision (Ok decision.Tidy) (Ok decision.Tidy) e = refl
one_decision (Ok decision.Tidy) (Ok decision.UpdateMetaThenTidy) e = let z : ◌≡◌ {A = ℕ} 0 1 = cc in absurd (omega arith)
one_decision (Ok decision.Tidy) (Err s) e = absurd (given_refused tidy (number_of s) e)
one_decision (Ok decision.UpdateMetaThenTidy) (Ok decision.Tidy) e = let z : ◌≡◌ {A = ℕ} 0 1 = cc in absurd (omega arith)
one_decision (Ok decision.UpdateMetaThenTidy) (Ok decision.UpdateMetaThenTidy) e = refl
one_decision (Ok decision.UpdateMetaThenTidy) (Err s) e = absurd (given_refused update_meta_then_tidy (number_of s) e)
one_decision (Err r) (Ok decision.Tidy) e = absurd (given_refused tidy (number_of r) (sym e))
one_decision (Err r) (Ok decision.UpdateMetaThenTidy) e = absurd (given_refused update_meta_then_tidy (number_of r) (sym e))
one_decision (Err r) (Err s) e = ap Err (refusal_one r s (refused_one {A = Left} (number_of r) (number_of s) e))

pub one_grown : (r s : Result Grown Refusal) → grown_said r ≡ grown_said s → r ≡ s
one_grown (Ok grown.Done) (Ok grown.Done) e = refl
one_grown (Ok grown.Done) (Ok grown.NothingToDo) e = let z : ◌≡◌ {A = ℕ} 0 1 = cc in absurd (omega arith)
one_grown (Ok grown.Done) (Err s) e = absurd (given_refused done (number_of s) e)
one_grown (Ok grown.NothingToDo) (Ok grown.Done) e = let z : ◌≡◌ {A = ℕ} 0 1 = cc in absurd (omega arith)
one_grown (Ok grown.NothingToDo) (Ok grown.NothingToDo) e = refl
one_grown (Ok grown.NothingToDo) (Err s) e = absurd (given_refused nothing_to_do (number_of s) e)
one_grown (Err r) (Ok grown.Done) e = absurd (given_refused done (number_of r) (sym e))
one_grown (Err r) (Ok grown.NothingToDo) e = absurd (given_refused nothing_to_do (number_of r) (sym e))
one_grown (Err r) (Err s) e = ap Err (refusal_one r s (refused_one {A = Growth} (number_of r) (number_of s) e))
