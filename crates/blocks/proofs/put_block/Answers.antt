-- The bytes stand in the part that is there; s ends before it otherwise. Assumes nothing.
use Rattle.std.proofs.Common.{arith}
use Rattle.std.proofs.lemmas.Grind.{common_steps}
use Rattle.blocks.proofs.Laws.{put_fits, put_short}
use Rattle.blocks.proofs.put_block.Goals as goal

pub returns-then-at-s : goal.returns-then-at-s
returns-then-at-s g c = grind (arith, common_steps, put_fits)

pub returns-else-s : goal.returns-else-s
returns-else-s g c = grind (arith, common_steps, put_short)
