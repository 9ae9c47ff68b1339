-- The plan, then the test of room, then the search for a bucket: each as the definition has it. Assumes nothing.
use Rattle.std.proofs.Common.{◌≡◌, ◌∙◌, sym, ap, rules, Bool, true, cond, length, Ok}
use Rattle.answers.specs.Answers.{given, refused}
use Rattle.page_diff.specs.Diff.{count_of}
use Rattle.probe.specs.Path.{allocating, allocate_answer}
use Rattle.probe.proofs.Allocating.{answer_below}
use Rattle.wal.specs.Log.{clear_body, update_body}
use Rattle.wal_write.specs.Calls.{room_in}
use Rattle.sync.specs.Change.{mem_at, cleared, updated, by_bucket, after_does}
use Rattle.sync.specs.InnerChange.{planned_said}
use Rattle.sync.specs.declared.Planned.{Planned}
use Rattle.sync.proofs.Plans.{does_clears, does_updates, does_allocates}
use Rattle.sync.proofs.look_ahead.Goals as goal

pub returns-in-Clears-planned : goal.returns-in-Clears-planned
returns-in-Clears-planned c =
    let x = c.args in
    let m = mem_at x.m.now in
    let b = c.in-Clears-planned.b in
    let d = sym c.in_ok-planned.ensures ∙ ap (λ (p : Planned). planned_said (Ok p)) c.in-Clears-planned.is in
    let fits : room_in (length x.m.now.log.now) x.st.writer clear_body ≡ true = search rules in (
      sym (ap (after_does x.st m x.c) d ∙ ap (λ (t : Bool). cond t (given (cleared b)) (refused 13)) fits),
      (does_clears x.st.n x.m.now.tags.now x.m.now.cells.now x.c b d, fits),
    )

pub returns-in-Updates : goal.returns-in-Updates
returns-in-Updates c =
    let x = c.args in
    let m = mem_at x.m.now in
    let b = c.in-Updates.b in
    let d = sym c.in_ok-planned.ensures ∙ ap (λ (p : Planned). planned_said (Ok p)) c.in-Updates.is in
    let fits : room_in (length x.m.now.log.now) x.st.writer (update_body (count_of x.c.diff.words)) ≡ true = search rules in
    let q = does_updates x.st.n x.m.now.tags.now x.m.now.cells.now x.c b d in
    (sym (ap (after_does x.st m x.c) d ∙ ap (λ (t : Bool). cond t (given (updated b)) (refused 13)) fits), (q.0, fits, q.1))

pub returns-in_ok-find_bucket-in-Allocates : goal.returns-in_ok-find_bucket-in-Allocates
returns-in_ok-find_bucket-in-Allocates c =
    let x = c.args in
    let m = mem_at x.m.now in
    let b = c.in_ok-find_bucket-in-Allocates.field-0 in
    let d = sym c.in_ok-planned.ensures ∙ ap (λ (p : Planned). planned_said (Ok p)) c.in-Allocates.is in
    let fits : room_in (length x.m.now.log.now) x.st.writer (update_body (count_of x.c.diff.words)) ≡ true = search rules in
    let a : allocate_answer x.st.limit x.m.now.tags.now x.st.n x.c.hash ≡ given b = sym c.in_ok-find_bucket-in-Allocates.ensures in
    let found : allocating x.st.limit x.m.now.tags.now x.st.n x.c.hash ≡ given b =
    sym (ap (λ (t : Bool). cond t (allocating x.st.limit x.m.now.tags.now x.st.n x.c.hash) (refused 1)) c.requires) ∙ a in (
      sym (ap (after_does x.st m x.c) d ∙ ap (λ (t : Bool). cond t (by_bucket (allocating x.st.limit x.m.now.tags.now x.st.n x.c.hash)) (refused 13)) fits ∙ ap by_bucket found),
      ((answer_below x.st.limit x.m.now.tags.now x.st.n x.c.hash b a).0, fits, does_allocates x.st.n x.m.now.tags.now x.m.now.cells.now x.c d),
    )
