-- The next byte decides whether the flag stays; no answer names the test, so that another test falls at its fact. Assumes nothing.
use Rattle.std.proofs.Common.{arith}
use Rattle.std.proofs.lemmas.Grind.{common_steps}
use Rattle.std.proofs.lemmas.Bool.Decides.{nat_tests}
use Rattle.blocks.proofs.Zeros.{zeros_next, zeros_none}
use Rattle.std.proofs.Math.Bool.{and-true, and-false}
use Rattle.blocks.proofs.only_zeros.Goals as goal

pub loop-b-preserved : goal.loop-b-preserved
loop-b-preserved c =
    let on = zeros_next c.args.s.now c.loop-b.b-index (omega arith) in
    grind (arith, common_steps, nat_tests, and-false)

pub returns : goal.returns
returns c = grind (arith, zeros_none, and-true)
