-- What the start, the changes and the end promise makes the whole. Assumes nothing.
use Rattle.sync.specs.Change.{mem_at}
use Rattle.sync.proofs.SyncLaws.{whole}
use Rattle.sync.proofs.sync.Goals as goal

pub returns-clause-syncs : goal.returns-clause-syncs
returns-clause-syncs c =
    let a = c.args in
    let n = c.all_changes-run.new in
    whole a.start a.m.now.tags.now a.m.now.marks.now a.m.now.cells.now a.m.now.log.now a.pages.now a.changes.now a.w.now c.all_changes-run.result (mem_at n.m)
    c.all_changes-run.ensures.walks c.end_sync.result c.end_sync.new.w c.end_sync.new.log c.end_sync.ensures
