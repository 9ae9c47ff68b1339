-- Each test answers as the definition does, and the number of four bytes keeps its value in a wider type. Assumes nothing.
use Rattle.std.proofs.Common.{◌≡◌, ◌-◌, ℕ, List, sym, ap, ◌∙◌, get_or, length}
use borrow.Author.Tests.{eqb-true, eqb-false}
use Rattle.answers.specs.Answers.{given}
use Rattle.blocks.specs.Blocks.{le, block}
use Rattle.wal.specs.Log.{mark_size}
use Rattle.wal.specs.Reader.{edition_at}
use Rattle.wal_read.proofs.NextLaws.{start_pages, start_empty, start_missing, start_given}
use Rattle.wal_read.proofs.set.Goals as goal

pub returns-then-log-ne0 : goal.returns-then-log-ne0
returns-then-log-ne0 c = sym (start_pages c.args.log.now c.if-log-ne0.true)

pub returns-then-is_empty : goal.returns-then-is_empty
returns-then-is_empty c = sym (start_empty c.args.log.now c.if-log-ne0.false (eqb-true (length c.args.log.now) 0 (sym c.if-is_empty.ensures)))

pub returns-then-log-body-ne-WAL_ENTRY_TAG_START : goal.returns-then-log-body-ne-WAL_ENTRY_TAG_START
returns-then-log-body-ne-WAL_ENTRY_TAG_START c =
    let log : List ℕ = c.args.log.now in
    let size : c.mark_size-body.result ≡ mark_size (edition_at log) = c.mark_size-body.ensures ∙ ap mark_size c.edition_of.ensures in
    sym (start_missing log c.if-log-ne0.false (eqb-false (length log) 0 (sym c.if-is_empty.ensures)) (λ e. c.if-log-body-ne-WAL_ENTRY_TAG_START.true (ap (λ (m : ℕ). get_or log (m - 1) 0) size ∙ e)))

pub returns : goal.returns
returns c =
    let log : List ℕ = c.args.log.now in
    let size : c.mark_size-body.result ≡ mark_size (edition_at log) = c.mark_size-body.ensures ∙ ap mark_size c.edition_of.ensures in
    ap given (c.from.ensures ∙ c.read_u32.ensures ∙ ap (λ (m : ℕ). le (block 4 log m)) size)
    ∙ sym (start_given log c.if-log-ne0.false (eqb-false (length log) 0 (sym c.if-is_empty.ensures)) (sym (ap (λ (m : ℕ). get_or log (m - 1) 0) size) ∙ c.if-log-body-ne-WAL_ENTRY_TAG_START.false))
