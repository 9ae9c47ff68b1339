-- At the head of the loop no bucket before the answer so far, of a class so far, is doubled. Assumes nothing.
use Rattle.label_search.proofs.Passes.{Classing}
use Rattle.label_search.proofs.Table.first_by_passes.Given as goal

abbrev pub invariant-loop-index : goal.invariant-loop-index
invariant-loop-index l = Classing l.self.image.now l.self.n l.count l.index l.first
