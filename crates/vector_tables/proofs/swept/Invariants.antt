-- The sum stays below the number it is taken by. Assumes nothing.
use Rattle.std.proofs.Common.{◌<◌}
use Rattle.vector_tables.proofs.swept.Given as goal

abbrev pub invariant-loop-i : goal.invariant-loop-i
invariant-loop-i l = l.sum < 1000003
