-- At the head of the loop no bucket so far is doubled. Assumes nothing.
use Rattle.std.proofs.Common.{◌≡◌, false, ℕ, ◌<◌}
use Rattle.label_search.specs.Labels.{doubled}
use Rattle.label_search.proofs.Table.first_by_search.Given as goal

abbrev pub invariant-loop-b : goal.invariant-loop-b
invariant-loop-b l = (j : ℕ) → j < l.b → doubled l.self.image.now l.self.n j ≡ false
