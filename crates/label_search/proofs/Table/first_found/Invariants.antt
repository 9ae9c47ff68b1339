-- At the head of the loop the pass is at the block's first bucket, or at the end, and has found none. Assumes nothing.
use Rattle.std.proofs.Common.{min}
use Rattle.label_search.specs.InnerFilter.{Seeking}
use Rattle.label_search.proofs.Table.first_found.Given as goal

abbrev pub invariant-loop-from : goal.invariant-loop-from
invariant-loop-from l = Seeking l.self.image.now l.self.n l.class.count l.class.index l.suspects (min l.from l.end) l.seen
