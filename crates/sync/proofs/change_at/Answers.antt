-- The step's answer is told on. Assumes nothing.
use Rattle.sync.specs.Change.{mem_at}
use Rattle.sync.proofs.StartLaws.{change_refused, change_given, change_mem_lem}
use Rattle.sync.proofs.Widths.{typed_wide}
use Rattle.sync.proofs.change_at.Goals as goal

pub returns-in-Ok-taken-clause-goes : goal.returns-in-Ok-taken-clause-goes
returns-in-Ok-taken-clause-goes c =
    let x = c.args in
    let m = mem_at x.m.now in
    let r = c.step-taken in rw c.in-Ok.is (
      change_given c.in-Ok.st m x.pages.now c.page_at.result.now x.c x.j c.page_at.ensures r.result r.ensures.does.taken r.new.st r.ensures.does.state c.in-Ok-taken.field-0 c.in-Ok-taken.is,
      change_mem_lem c.in-Ok.st m x.pages.now c.page_at.result.now x.c x.j c.page_at.ensures (mem_at r.new.m) r.ensures.does.memory,
    )

pub returns-in-Err-clause-goes : goal.returns-in-Err-clause-goes
returns-in-Err-clause-goes c =
    let x = c.args in
    let m = mem_at x.m.now in
    let r = c.step-taken in rw c.in-Ok.is (
      change_refused c.in-Ok.st m x.pages.now c.page_at.result.now x.c x.j c.page_at.ensures r.result r.ensures.does.taken c.in-Err.why c.in-Err.is,
      change_mem_lem c.in-Ok.st m x.pages.now c.page_at.result.now x.c x.j c.page_at.ensures (mem_at r.new.m) r.ensures.does.memory,
    )

pub returns-in_default-clause-wide : goal.returns-in_default-clause-wide
returns-in_default-clause-wide c = typed_wide c.args.c _ c.well_formed.1.1.0
