-- At the head of the loop the nodes of the slots that are done are put. Assumes nothing.
use Rattle.std.proofs.Common.{map}
use Rattle.page_diff.specs.Diff.{slots}
use Rattle.page_diff.specs.Pack.{node_at}
use Rattle.page_diff.proofs.Nodes.{Nodes}
use Rattle.page_diff.proofs.Walk.{Walk}
use Rattle.page_diff.proofs.put_marked_nodes.Given as goal

abbrev pub invariant-loop-c : goal.invariant-loop-c
invariant-loop-c l = record {
  walk : Walk l.fn.d.words l.c-iterator.iter.left.words l.c-iterator.count;
  nodes : Nodes l.fn.s l.at (map (node_at l.page) (slots l.fn.d.words)) l.s l.c-iterator.count;
}
