-- By the mark: its tag tells what stands after it. Assumes nothing.
use Rattle.std.proofs.Common.{rules, ◌≡◌, ◌+◌, ℕ, sym, ap, ◌∙◌}
use Rattle.answers.specs.Refusals.{number_of}
use Rattle.wal.specs.Reader.{by_tag, next_at}
use Rattle.wal_read.specs.Head.{a_refusal, head_of}
use Rattle.wal_read.proofs.NextLaws.{next_unmarked, next_tagged}
use Rattle.wal_read.proofs.record_at.Goals as goal

pub returns-in_err-tag : goal.returns-in_err-tag
returns-in_err-tag c =
    let a = c.args in
    let k : ℕ = number_of c.in_err-tag.field-0.0 in
    let e : a_refusal k ≡ head_of (next_at a.edition a.log.now a.at) = sym (ap head_of (next_unmarked a.edition a.log.now a.at k (sym c.in_err-tag.ensures))) in
    search rules

pub returns : goal.returns
returns c =
    let a = c.args in
    c.head_after.ensures ∙ ap (λ (m : ℕ). head_of (by_tag c.in_ok-tag.tag a.log.now (a.at + m))) c.mark_size.ensures
    ∙ sym (ap head_of (next_tagged a.edition a.log.now a.at c.in_ok-tag.tag (sym c.in_ok-tag.ensures)))
