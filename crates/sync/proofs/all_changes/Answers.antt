-- A start that is refused, each change by the walk's laws, and then the whole walk. Assumes nothing.
use Rattle.std.proofs.Common.{◌≡◌, ◌∙◌, sym, subst, ℕ, List, get_or, arith, rules, below_more, Result, Ok, Err}
use Rattle.sync.specs.Change.{mem_of, mem_at, Wide}
use Rattle.sync.specs.Sync.{WalkPromise, run_said, wide_on}
use Rattle.sync.specs.declared.Change.{Change}
use Rattle.sync.specs.declared.SyncRefusal.{SyncRefusal}
use Rattle.sync.specs.declared.SyncRefusal.TheVariants.{Refused, RefusedAt}
use Rattle.sync.specs.declared.SyncState.{SyncState}
use Rattle.wal.specs.declared.Start.{Start}
use Rattle.sync.proofs.SyncLaws.{not_begun, gone}
use Rattle.sync.proofs.Widths.{all_wide}
use Rattle.sync.proofs.WalkLaws.{goes_at, goes_end, stops_at, no_change}
use Rattle.sync.proofs.all_changes.Goals as goal

pub returns-in_err-st-clause-walks : goal.returns-in_err-st-clause-walks
returns-in_err-st-clause-walks c =
    let a = c.args in
    let n = c.begin_lent.new in
    let why = c.in_err-st.field-0.0 in
    let told : c.from_residual.result ≡ Err (Refused why) = search rules in
    subst (λ (r : Result SyncState SyncRefusal). WalkPromise a.start (mem_at a.m.now) a.pages.now a.changes.now r (mem_of n.tags n.marks a.m.now.cells.now n.log))
    (sym told) (not_begun a.start a.m.now.tags.now a.m.now.marks.now a.m.now.cells.now a.m.now.log.now a.pages.now a.changes.now why n.tags n.marks n.log c.in_err-st.ensures)

pub loop-j-preserved : goal.loop-j-preserved
loop-j-preserved c =
    let a = c.args in
    let l = c.loop-j in
    let n = c.change_at.new in
    let e = c.in_ok-st-2.ensures in
    record {
      walked =
          sym (goes_at (mem_at l.m) a.pages.now a.changes.now l.j l.st c.loop-j-test.true (mem_at n.m) e.goes.1 c.in_ok-st-2.st e.goes.0)
          ∙ l.invariant.walked;
      wide = below_more (λ (k : ℕ). Wide (get_or a.changes.now k no_change)) l.j l.invariant.wide e.wide;
      same = search rules;
    }

-- a change that is refused
wide_none : (e : SyncRefusal) (cs : List Change) (start : Start) → wide_on (run_said (Err e)) cs start
wide_none (Refused r) cs start = tt
wide_none (RefusedAt j r) cs start = tt

pub returns-in_err-st-2-clause-walks : goal.returns-in_err-st-2-clause-walks
returns-in_err-st-2-clause-walks c =
    let a = c.args in
    let b = c.begin_lent.new in
    let l = c.loop-j in
    let n = c.change_at.new in
    let why = c.in_err-st-2.field-0.0 in
    let e = c.in_err-st-2.ensures in
    let told : c.from_residual-in_err-st-2.result ≡ Err why = search rules in
    subst (λ (r : Result SyncState SyncRefusal). WalkPromise a.start (mem_at a.m.now) a.pages.now a.changes.now r (mem_at n.m))
    (sym told)
    (gone a.start a.m.now.tags.now a.m.now.marks.now a.m.now.cells.now a.m.now.log.now a.pages.now a.changes.now c.in_ok-st.st b.tags b.marks b.log c.in_ok-st.ensures (Err why) (mem_at n.m)
    (sym l.invariant.walked
    ∙ stops_at (mem_at l.m) a.pages.now a.changes.now l.j l.st c.loop-j-test.true (mem_at n.m) e.goes.1 why e.goes.0)
    (wide_none why a.changes.now a.start.log_start))

pub returns-clause-walks : goal.returns-clause-walks
returns-clause-walks c =
    let a = c.args in
    let b = c.begin_lent.new in
    let l = c.loop-j in
    gone a.start a.m.now.tags.now a.m.now.marks.now a.m.now.cells.now a.m.now.log.now a.pages.now a.changes.now c.in_ok-st.st b.tags b.marks b.log c.in_ok-st.ensures (Ok l.st) (mem_at l.m)
    (sym l.invariant.walked ∙ goes_end (mem_at l.m) a.pages.now a.changes.now l.j l.st (omega arith) c.loop-j-test.false)
    (all_wide no_change a.changes.now (λ k h. l.invariant.wide k (omega (arith, h, c.loop-j-test.false))), c.in_ok-st.ensures.1.1)
