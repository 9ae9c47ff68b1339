-- At the head of the loop the pass is at bucket b, whose key was read before. Assumes nothing.
use Rattle.label_search.specs.InnerFilter.{Seeking}
use Rattle.label_search.proofs.Table.seek_block.Given as goal

abbrev pub invariant-loop-b : goal.invariant-loop-b
invariant-loop-b l = Seeking l.self.image.now l.self.n l.class.count l.class.index l.suspects l.b l.seen
