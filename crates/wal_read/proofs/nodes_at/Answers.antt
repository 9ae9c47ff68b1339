-- One node more stands at the table's front. Assumes nothing.
use Rattle.std.proofs.Common.{arith}
use Rattle.wal_read.proofs.Nodes.{rows_none, rows_turn}
use Rattle.wal_read.proofs.nodes_at.Goals as goal

pub loop-c-init : goal.loop-c-init
loop-c-init c = rows_none c.args.log.now c.args.from

pub loop-c-preserved : goal.loop-c-preserved
loop-c-preserved c = rows_turn c.args.log.now c.args.from c.loop-c.c c.loop-c.nodes c.block.result c.loop-c.invariant c.block.ensures (omega arith)
