-- At the head of the loop the pass is at bucket b, whose key was read before. Assumes nothing.
use Rattle.label_search.specs.InnerFilter.{Marking}
use Rattle.label_search.proofs.Table.mark_block.Given as goal

abbrev pub invariant-loop-b : goal.invariant-loop-b
invariant-loop-b l = Marking l.self.image.now l.self.n l.class.count l.class.index l.b l.seen l.suspects l.some
