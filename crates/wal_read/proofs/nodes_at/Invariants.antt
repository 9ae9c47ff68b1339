-- At the head of the loop c nodes of the log stand at the table's front, over its zeros. Assumes nothing.
use Rattle.std.proofs.Common.{◌≡◌}
use Rattle.wal.specs.Reader.{nodes_from}
use Rattle.wal_read.specs.Entry.{rows}
use Rattle.wal_read.proofs.nodes_at.Given as goal

abbrev pub invariant-loop-c : goal.invariant-loop-c
invariant-loop-c l = l.nodes ≡ rows (nodes_from l.log l.from l.c)
