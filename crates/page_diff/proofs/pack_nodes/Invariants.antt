-- At the head of the loop the table has the nodes of the slots that are done. Assumes nothing.
use Rattle.std.proofs.Common.{◌≡◌, take}
use Rattle.page_diff.specs.Diff.{slots}
use Rattle.page_diff.specs.Pack.{table_of}
use Rattle.page_diff.proofs.Walk.{Walk}
use Rattle.page_diff.proofs.pack_nodes.Given as goal

abbrev pub invariant-loop-c : goal.invariant-loop-c
invariant-loop-c l = record {
  walk : Walk l.fn.d.words l.c-iterator.iter.left.words l.c-iterator.count;
  table : l.nodes ≡ table_of l.page (take l.c-iterator.count (slots l.fn.d.words));
}
