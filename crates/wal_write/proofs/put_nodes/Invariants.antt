-- At the head of the loop the first `c` nodes are put. Assumes nothing.
use Rattle.wal.specs.Run.{Rows}
use Rattle.page_diff.proofs.Nodes.{Nodes}
use Rattle.wal_write.proofs.put_nodes.Given as goal

abbrev pub invariant-loop-c : goal.invariant-loop-c
invariant-loop-c l = record { put_so_far : Nodes l.fn.log l.at l.nodes l.log l.c; rows : Rows l.nodes l.c }
