-- The lines before a position stand at the start; each line leads on within the log. Assumes nothing.
use Rattle.std.proofs.Common.{◌-◌, length}
use Rattle.wal_list.proofs.Filling.{Filled}
use Rattle.wal_list.proofs.lines_into.Given as goal

abbrev pub invariant-loop-len : goal.invariant-loop-len
invariant-loop-len l = Filled l.fn.log l.fn.out l.out l.done l.at

abbrev pub decreases-loop-len : goal.decreases-loop-len
decreases-loop-len l = length l.log - l.at
