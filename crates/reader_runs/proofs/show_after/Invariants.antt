-- No count is more than the position. Assumes nothing.
use Rattle.std.proofs.Common.{◌≤◌}
use Rattle.reader_runs.proofs.show_after.Given as goal

abbrev pub invariant-loop-i : goal.invariant-loop-i
invariant-loop-i l = (l.refused ≤ l.i) × (l.ended ≤ l.i)
