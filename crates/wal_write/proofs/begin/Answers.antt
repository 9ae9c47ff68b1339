-- A slice shorter than a page has capacity 0; else the start record is put. Assumes nothing.
use Rattle.std.proofs.Common.{rules, refl, ap}
use mir.Syntax.{w32}
use mir.Val.{Fits}
use Rattle.answers.specs.Answers.{given, refused}
use Rattle.wal.specs.Log.{start_record, start_size}
use Rattle.wal.specs.Writer.{open_at, begin_answer}
use Rattle.wal_write.proofs.CallLaws.{begin_short, begin_given, refused_leaves, given_leaves}
use Rattle.wal_write.proofs.begin.Goals as goal

pub returns-then-log-lt-PAGE_SIZE : goal.returns-then-log-lt-PAGE_SIZE
returns-then-log-lt-PAGE_SIZE c =
    let a = c.args in
    let log = a.log.now in
    let number : Fits w32 a.start.sync = search rules in
    let left = refused_leaves (begin_answer log) a.w.now (open_at a.start.edition (start_size a.start.edition)) log 0 (start_record a.start) 13 (refused 13) a.w.now (begin_short log c.if-log-lt-PAGE_SIZE.true) refl refl in
    (left.0, left.1, record { number = number.fits; seed_long = search rules })

pub returns : goal.returns
returns c =
    let a = c.args in
    let log = a.log.now in
    let left = given_leaves (begin_answer log) a.w.now (open_at a.start.edition (start_size a.start.edition)) log 0 (start_record a.start) tt (given tt) (open_at a.start.edition c.start_size.result) c.put_start.new.log
    (begin_given log c.if-log-lt-PAGE_SIZE.false) refl (ap (open_at a.start.edition) c.start_size.ensures) c.put_start.ensures.0 in
    (left.0, left.1, c.put_start.ensures.1)
