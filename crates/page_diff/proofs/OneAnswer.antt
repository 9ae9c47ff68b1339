-- A promise names one answer only: what it says of a result is all there is. Assumes nothing.
use mathlib.Core.Path.{◌≡◌, refl, sym, ap, ap₂, ◌∙◌}
use Prim.Native.Nat.{ℕ, ◌<◌}
use mathlib.Core.List.{List}
use native.Mathlib.Omega.{arith}
use Rattle.std.specs.Prelude.{Result, Ok, Err, Option, Some, None, IfOk, MatchOption}
use Rattle.answers.specs.Refusals.{number_of}
use Rattle.answers.specs.Answers.{done_of}
use Rattle.answers.specs.declared.Refusal.{Refusal}
use Rattle.answers.proofs.Laws.{given_refused, refused_one, refusal_one}
use Rattle.page_diff.specs.Diff.{first_slot, without_first}
use Rattle.page_diff.specs.declared.Diff.{Diff}
use Rattle.page_diff.specs.declared.Packed.{Packed}

-- of two results that say the same, one is Ok exactly where the other is, and then each has what is promised of its value
pub one_result : {A : Type 0} (a b : Result A Refusal) (P : A → Type 0) → ((x y : A) → P x → P y → x ≡ y) → done_of a ≡ done_of b → IfOk a P → IfOk b P → a ≡ b
one_result (Ok x) (Ok y) P h e p q = ap Ok (h x y p q)
one_result (Ok x) (Err s) P h e p q = absurd (given_refused tt (number_of s) e)
one_result (Err r) (Ok y) P h e p q = absurd (given_refused tt (number_of r) (sym e))
one_result (Err r) (Err s) P h e p q = ap Err (refusal_one r s (refused_one (number_of r) (number_of s) e))

pub one_diff : (a b : Diff) → a.words ≡ b.words → a ≡ b
one_diff a b e = ap (λ ws. record { words = ws }) e

pub one_diff_answer : (a b : Result Diff Refusal) (ws : List ℕ) → done_of a ≡ done_of b → IfOk a (λ d. d.words ≡ ws) → IfOk b (λ d. d.words ≡ ws) → a ≡ b
one_diff_answer a b ws e p q = one_result a b (λ d. d.words ≡ ws) (λ x y h k. one_diff x y (h ∙ sym k)) e p q

-- what `next_slot` promises of a diff
abbrev pub NextOf : List ℕ → Option (ℕ × Diff) → Type 0
NextOf ws r = MatchOption r (first_slot ws ≡ 128) (λ n. (n.0 < 128) × ((n.0 ≡ first_slot ws) × (n.1.words ≡ without_first ws)))

pub one_next_slot : (ws : List ℕ) (a b : Option (ℕ × Diff)) → NextOf ws a → NextOf ws b → a ≡ b
one_next_slot ws None None p q = refl
one_next_slot ws None (Some n) p q = absurd (omega (arith, p, q.0, q.1.0))
one_next_slot ws (Some m) None p q = absurd (omega (arith, p.0, p.1.0, q))
one_next_slot ws (Some m) (Some n) p q = ap₂ (λ (s : ℕ) (d : Diff). Some (s, d)) (p.1.0 ∙ sym q.1.0) (one_diff m.1 n.1 (p.1.1 ∙ sym q.1.1))

pub one_packing : (a b : Result Packed Refusal) (t : Packed) → done_of a ≡ done_of b → IfOk a (λ p. p ≡ t) → IfOk b (λ p. p ≡ t) → a ≡ b
one_packing a b t e p q = one_result a b (λ x. x ≡ t) (λ x y h k. h ∙ sym k) e p q
