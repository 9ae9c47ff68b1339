-- The bytes found are those of the block; none are found where s ends before them. Assumes nothing.
use Rattle.std.proofs.Common.{arith}
use Rattle.std.proofs.lemmas.Grind.{common_steps}
use Rattle.blocks.proofs.Laws.{block_at, block_short}
use Rattle.blocks.proofs.block.Goals as goal

pub returns : goal.returns
returns g c = grind (arith, common_steps, block_at)

pub returns-2 : goal.returns-2
returns-2 g c = grind (arith, common_steps, block_short)
