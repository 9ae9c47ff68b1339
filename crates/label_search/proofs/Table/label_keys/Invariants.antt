-- At the head of the loop the keys so far are those of the labels. Assumes nothing.
use Rattle.label_search.specs.InnerFilter.{KeysOf}
use Rattle.label_search.proofs.Table.label_keys.Given as goal

abbrev pub invariant-loop-b : goal.invariant-loop-b
invariant-loop-b l = KeysOf l.self.image.now l.self.n l.from l.b l.keys
