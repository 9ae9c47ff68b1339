-- The library's `==` looks at one byte after the other. Assumes nothing.
use Rattle.std.proofs.Common.{arith}
use Rattle.std.proofs.lemmas.List.{take_all}
use Rattle.blocks.proofs.Same.{same-pointwise}
use Rattle.blocks.proofs.same_block.Goals as goal

pub returns : goal.returns
returns g c = grind (arith, same-pointwise, take_all)
