-- At the head of the loop the pass is at the block's first bucket, or at the end. Assumes nothing.
use Rattle.std.proofs.Common.{min}
use Rattle.label_search.specs.InnerFilter.{Marking}
use Rattle.label_search.proofs.Table.mark_suspects.Given as goal

abbrev pub invariant-loop-from : goal.invariant-loop-from
invariant-loop-from l = Marking l.self.image.now l.self.n l.class.count l.class.index (min l.from l.end) l.seen l.suspects l.any
