-- A part that is not all zero ends the search; what is left after the last part is empty. Assumes nothing.
use Rattle.std.proofs.Common.{arith}
use Rattle.std.proofs.lemmas.Grind.{common_steps}
use Rattle.blocks.proofs.Zeros.{zeros_none, zeros-append, zeros_nothing}
use Rattle.blocks.proofs.zeros_from.Goals as goal

pub returns-then-not-only_zeros : goal.returns-then-not-only_zeros
returns-then-not-only_zeros c = grind (arith, common_steps, zeros-append)

pub loop-part-preserved : goal.loop-part-preserved
loop-part-preserved c = grind (arith, common_steps, zeros-append)

pub returns-in-None : goal.returns-in-None
returns-in-None c = grind (arith, common_steps, zeros_nothing)

pub returns-in_default : goal.returns-in_default
returns-in_default c = grind (arith, common_steps, zeros_none)
