-- At the head of the loop the first i bytes of the page are put. Assumes nothing.
use Rattle.std.proofs.Common.{◌≡◌}
use lib.Seq.{paste}
use Rattle.blocks.specs.Blocks.{block}
use Rattle.rehash.proofs.copy_page.Given as goal

abbrev pub invariant-loop-i : goal.invariant-loop-i
invariant-loop-i l = l.image ≡ paste l.fn.image l.at (block 4096 l.source l.from) l.i
