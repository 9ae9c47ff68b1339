-- A class more. Assumes nothing.
use Rattle.label_search.proofs.Passes.{class_turn}
use Rattle.label_search.proofs.Table.first_by_passes.Goals as goal

pub loop-index-preserved : goal.loop-index-preserved
loop-index-preserved c = class_turn _ _ _ _ _ _ c.loop-index-test.true c.loop-index.invariant c.first_of_class-first.ensures
