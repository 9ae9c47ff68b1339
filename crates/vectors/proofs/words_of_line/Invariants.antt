-- No word is behind the last. Assumes nothing.
use Rattle.std.proofs.Common.{◌≤◌}
use Rattle.vectors.proofs.words_of_line.Given as goal

abbrev pub invariant-loop-b : goal.invariant-loop-b
invariant-loop-b l = l.k ≤ 19
