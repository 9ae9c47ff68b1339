-- The sum stays below the number it is taken by. Assumes nothing.
use Rattle.std.proofs.Common.{◌<◌}
use Rattle.vector_memory.proofs.weighed.Given as goal

abbrev pub invariant-loop-b : goal.invariant-loop-b
invariant-loop-b l = l.sum < 1000003
