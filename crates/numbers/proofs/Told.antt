-- The values that are given, or zeros. Assumes nothing.
use Rattle.std.proofs.Common.{◌≡◌, refl, ap, Result, Ok, Err, Float}
use Rattle.std.specs.Float.{binary64}
use Rattle.std.specs.Float.Ieee as Ieee
use Rattle.std.specs.Result.{result_unwrap_or}
use Rattle.answers.specs.Answers.{answer_of}
use Rattle.answers.specs.declared.Refusal.{Refusal}
use Rattle.validate.specs.declared.Audit.{Audit}
use Rattle.numbers.specs.Numbers.{no_rate, audit_values}

abbrev with_rate : Float → Audit
with_rate x = record { capacity = 0; occupied = 0; rate = x }

zero_rate : Ieee.of_bits binary64 0 ≡ no_rate
unfolding Ieee.of_bits Ieee.of_int
zero_rate = refl

pub told : (a : Result Audit Refusal) → result_unwrap_or a (with_rate (Ieee.of_bits binary64 0)) ≡ audit_values (answer_of a)
told (Ok p) = refl
told (Err r) = ap with_rate zero_rate
