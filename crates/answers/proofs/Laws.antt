-- An answer is determined by what it says: a result has one value for each answer of 01. So where a promise says
-- `answer_of r ≡ d`, two answers that it allows for one input are equal. Assumes nothing.
use mathlib.Core.Path.{◌≡◌, refl, sym, ap, ◌∙◌}
use mathlib.Core.Bool.{cond}
use Prim.Native.Nat.{ℕ}
use native.Mathlib.Omega.{arith}
use lib.Dec.{eqb}
use Rattle.std.specs.Prelude.{Result, Ok, Err}
use Rattle.answers.specs.Refusals.{number_of}
use Rattle.answers.specs.Answers.{Answer, given, refused, answer_of}
use Rattle.answers.specs.declared.Refusal.{Refusal}
use Rattle.answers.specs.declared.Refusal.TheVariants.{TableUnfit, LengthUnfit, SlotUnfit, DiffReserved, LogNotPages, LogCut, NoStart, TagUnknown, BucketOutside, PathCrowded, PathClosed, WriterNotOpen, NoRoom, BucketUnfit, MarkerLength, MarkerMagic, MarkerOrder, NothingPending, WouldShrink, PaddingUsed, LabelTwice, TagWrong, EmptyFirst, NotReached, OtherStore, AfterEndUsed}

-- the refusal of a number
abbrev named : ℕ → Refusal
named n =
    cond (eqb n 1) TableUnfit
    (cond (eqb n 2) LengthUnfit
    (cond (eqb n 3) SlotUnfit
    (cond (eqb n 4) DiffReserved
    (cond (eqb n 5) LogNotPages
    (cond (eqb n 6) LogCut
    (cond (eqb n 7) NoStart
    (cond (eqb n 8) TagUnknown
    (cond (eqb n 9) BucketOutside
    (cond (eqb n 10) PathCrowded
    (cond (eqb n 11) PathClosed
    (cond (eqb n 12) WriterNotOpen
    (cond (eqb n 13) NoRoom
    (cond (eqb n 14) BucketUnfit
    (cond (eqb n 15) MarkerLength
    (cond (eqb n 16) MarkerMagic
    (cond (eqb n 17) MarkerOrder
    (cond (eqb n 18) NothingPending
    (cond (eqb n 19) WouldShrink
    (cond (eqb n 20) PaddingUsed
    (cond (eqb n 21) LabelTwice
    (cond (eqb n 22) TagWrong
    (cond (eqb n 23) EmptyFirst
    (cond (eqb n 24) NotReached
    (cond (eqb n 26) OtherStore
    (AfterEndUsed)))))))))))))))))))))))))

named_number : (r : Refusal) → named (number_of r) ≡ r
named_number TableUnfit = refl
named_number LengthUnfit = refl
named_number SlotUnfit = refl
named_number DiffReserved = refl
named_number LogNotPages = refl
named_number LogCut = refl
named_number NoStart = refl
named_number TagUnknown = refl
named_number BucketOutside = refl
named_number PathCrowded = refl
named_number PathClosed = refl
named_number WriterNotOpen = refl
named_number NoRoom = refl
named_number BucketUnfit = refl
named_number MarkerLength = refl
named_number MarkerMagic = refl
named_number MarkerOrder = refl
named_number NothingPending = refl
named_number WouldShrink = refl
named_number PaddingUsed = refl
named_number LabelTwice = refl
named_number TagWrong = refl
named_number EmptyFirst = refl
named_number NotReached = refl
named_number OtherStore = refl
named_number AfterEndUsed = refl

-- no two refusals have one number
pub refusal_one : (a b : Refusal) → number_of a ≡ number_of b → a ≡ b
refusal_one a b e = sym (named_number a) ∙ ap named e ∙ named_number b

module _ {A : Type 0} where
  -- a refusal is no value, and has one number
  pub given_refused : (a : A) (n : ℕ) → given a ≡ refused n → ⊥
  given_refused a n e = let z : ◌≡◌ {A = ℕ} 0 1 = cc in omega arith

  pub refused_one : (m n : ℕ) → ◌≡◌ {A = Answer A} (refused m) (refused n) → m ≡ n
  refused_one m n e = cc

  pub given_one : (a b : A) → given a ≡ given b → a ≡ b
  given_one a b e = cc

-- two results that say the same are the same
pub answer_one : {A : Type 0} (a b : Result A Refusal) → answer_of a ≡ answer_of b → a ≡ b
answer_one (Ok x) (Ok y) e = ap Ok (given_one x y e)
answer_one (Ok x) (Err s) e = absurd (given_refused x (number_of s) e)
answer_one (Err r) (Ok y) e = absurd (given_refused y (number_of r) (sym e))
answer_one (Err r) (Err s) e = ap Err (refusal_one r s (refused_one (number_of r) (number_of s) e))
