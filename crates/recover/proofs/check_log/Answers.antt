-- What is left of the log answers what the whole does; each entry moves the position on. Assumes nothing.
use Rattle.std.proofs.Common.{rules, arith, ◌≡◌, ◌+◌, ◌≤◌, ◌<◌, ℕ, sym, ap, ◌∙◌, subst}
use Rattle.answers.specs.Answers.{refused}
use Rattle.answers.specs.Refusals.{number_of}
use Rattle.wal.specs.Log.{clear, mark_size}
use Rattle.wal.specs.Reader.{edition_at, next_by, update_of}
use Rattle.wal.specs.declared.Edition.{Edition}
use Rattle.wal.proofs.Records.{mark_some}
use Rattle.wal_read.specs.Head.{head_of}
use Rattle.wal_read.proofs.ReadLaws.{moves}
use Rattle.recover.specs.Replay.{check_answer}
use Rattle.recover.proofs.Checks.{CheckState, check_entry, check_outside, check_end, check_refused, there_bucket, there_one, clear_read, update_read, end_read, is_end}
use Rattle.recover.proofs.check_log.Goals as goal

pub returns-in_err-head : goal.returns-in_err-head
returns-in_err-head c =
    let a = c.args in
    let l = c.loop-head in
    let k : ℕ = number_of c.in_err-head.field-0.0 in
    let e : check_answer a.rule a.n a.log.now a.hashes ≡ refused k =
    check_refused a.rule a.n a.log.now l.at l.updates l.invariant.state a.hashes k (c.in_err-head.ensures ∙ ap (λ (x : Edition). head_of (next_by a.rule x a.log.now l.at)) l.invariant.by) in
    search rules

pub returns-then-n-bucket : goal.returns-then-n-bucket
returns-then-n-bucket c =
    let a = c.args in
    let l = c.loop-head in
    let r = clear_read a.rule _ _ a.log.now l.at c.in_ok-head.head c.in_ok-head.ensures l.invariant.by _ _ c.in-Clear.is in
    sym (check_outside a.rule a.n a.log.now l.at l.updates l.invariant.state a.hashes (clear c.in-Clear.bucket) c.in-Clear.next r c.if-n-bucket.true)

pub loop-head-smaller-in-Clear : goal.loop-head-smaller-in-Clear
loop-head-smaller-in-Clear c =
    let a = c.args in
    let l = c.loop-head in
    let r = clear_read a.rule _ _ a.log.now l.at c.in_ok-head.head c.in_ok-head.ensures l.invariant.by _ _ c.in-Clear.is in
    let m = moves a.rule (edition_at a.log.now) a.log.now l.at (clear c.in-Clear.bucket) c.in-Clear.next r in
    omega (arith, m.on, m.within)

pub loop-head-preserved-in-Clear : goal.loop-head-preserved-in-Clear
loop-head-preserved-in-Clear c =
    let a = c.args in
    let l = c.loop-head in
    let b : ℕ = c.in-Clear.bucket in
    let p : ℕ = c.in-Clear.next in
    let r = clear_read a.rule _ _ a.log.now l.at c.in_ok-head.head c.in_ok-head.ensures l.invariant.by _ _ c.in-Clear.is in
    let m = moves a.rule (edition_at a.log.now) a.log.now l.at (clear b) p r in
    let z : l.updates + 0 ≡ l.updates = omega arith in
    record {
      by = l.invariant.by;
      state = subst (CheckState a.rule a.n a.log.now p) z (check_entry a.rule a.n a.log.now l.at l.updates l.invariant.state (clear b) p r c.if-n-bucket.false m.on);
    }

pub returns-then-n-bucket-2 : goal.returns-then-n-bucket-2
returns-then-n-bucket-2 c =
    let a = c.args in
    let l = c.loop-head in
    let ed : Edition = edition_at a.log.now in
    let t = update_read a.rule _ ed a.log.now l.at c.in_ok-head.head c.in_ok-head.ensures l.invariant.by _ _ _ c.in-Update.is in
    sym (check_outside a.rule a.n a.log.now l.at l.updates l.invariant.state a.hashes (update_of a.log.now (l.at + mark_size ed)) c.in-Update.next t.here
    (subst (λ (b : ℕ). a.n ≤ b) (sym (there_bucket a.rule ed a.log.now l.at _ _ _ t)) c.if-n-bucket-2.true))

pub overflow_add-updates : goal.overflow_add-updates
overflow_add-updates c =
    let a = c.args in
    let l = c.loop-head in
    let t = update_read a.rule _ _ a.log.now l.at c.in_ok-head.head c.in_ok-head.ensures l.invariant.by _ _ _ c.in-Update.is in
    omega (arith, t.within, l.invariant.state.few)

pub loop-head-smaller : goal.loop-head-smaller
loop-head-smaller c =
    let a = c.args in
    let l = c.loop-head in
    let t = update_read a.rule _ _ a.log.now l.at c.in_ok-head.head c.in_ok-head.ensures l.invariant.by _ _ _ c.in-Update.is in
    omega (arith, t.within, t.after)

pub loop-head-preserved : goal.loop-head-preserved
loop-head-preserved c =
    let a = c.args in
    let l = c.loop-head in
    let ed : Edition = edition_at a.log.now in
    let p : ℕ = c.in-Update.next in
    let t = update_read a.rule _ ed a.log.now l.at c.in_ok-head.head c.in_ok-head.ensures l.invariant.by _ _ _ c.in-Update.is in
    record {
      by = l.invariant.by;
      state =
          subst (λ (k : ℕ). CheckState a.rule a.n a.log.now p (l.updates + k)) (there_one ed a.log.now l.at)
          (check_entry a.rule a.n a.log.now l.at l.updates l.invariant.state (update_of a.log.now (l.at + mark_size ed)) p t.here
          (subst (λ (b : ℕ). b < a.n) (sym (there_bucket a.rule ed a.log.now l.at _ _ _ t)) c.if-n-bucket-2.false) (omega (arith, t.after, mark_some ed)));
    }

pub returns-in_default-head : goal.returns-in_default-head
returns-in_default-head c =
    let a = c.args in
    let l = c.loop-head in
    c.check_hashes.ensures
    ∙ sym (check_end a.rule a.n a.log.now l.at l.updates l.invariant.state a.hashes (end_read a.rule _ _ a.log.now l.at c.in_ok-head.head c.in_ok-head.ensures l.invariant.by (is_end c.in_ok-head.head c.in_default.not-Clear c.in_default-head.not-Update)))
