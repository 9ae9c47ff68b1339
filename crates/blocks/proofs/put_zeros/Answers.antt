-- Zeros fill the part that is there; s ends before it otherwise. Assumes nothing.
use Rattle.std.proofs.Common.{arith}
use Rattle.std.proofs.lemmas.Grind.{common_steps}
use Rattle.blocks.proofs.Laws.{put_fits, put_short}
use Rattle.blocks.proofs.put_zeros.Goals as goal

pub returns-then-n-s : goal.returns-then-n-s
returns-then-n-s c = grind (arith, common_steps, put_fits)

pub returns-else-at-s : goal.returns-else-at-s
returns-else-at-s c = grind (arith, common_steps, put_short)
