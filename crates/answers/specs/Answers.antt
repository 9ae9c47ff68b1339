-- What a call answers, in 01's terms: its values, or the number of a refusal. The definitions of every room answer so, and each enum of
-- the code has a definition that says which of these each of its cases is. Assumes nothing.
use Rattle.std.specs.Prelude.{Bool, true, false, ℕ, Result, Ok, Err}
use Rattle.answers.specs.Refusals.{number_of}
use Rattle.answers.specs.declared.Refusal.{Refusal}

-- "A refusal answers its number"
pub data Answer (A : Type 0) : Type 0 where
  given : A → Answer A
  refused : ℕ → Answer A

-- what a call's result says: the value, or the refusal's number
abbrev pub answer_of : {A : Type 0} → Result A Refusal → Answer A
answer_of (Ok x) = given x
answer_of (Err r) = refused (number_of r)

-- the same of the call alone, whatever its value
abbrev pub done_of : {A : Type 0} → Result A Refusal → Answer (Unit {0})
done_of (Ok x) = given tt
done_of (Err r) = refused (number_of r)

-- one thing after another: a refusal ends it, else it goes on from what was given
abbrev pub and_then : {A B : Type 0} → Answer A → (A → Answer B) → Answer B
and_then (given a) f = f a
and_then (refused m) f = refused m

-- the call did what was asked
abbrev pub accepted : {A : Type 0} → Answer A → Bool
accepted (given a) = true
accepted (refused n) = false
