-- Two numbers fill the sixteen bytes. Assumes nothing.
use Rattle.std.proofs.Common.{arith}
use Rattle.blocks.proofs.Laws.{put_both}
use Rattle.page_diff.proofs.as_bytes.Goals as goal

pub returns : goal.returns
returns c = grind (arith, put_both)
