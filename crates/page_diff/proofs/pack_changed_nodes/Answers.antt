-- Each test answers as the definition does; with both passed the table and the count are the marked slots'. Assumes nothing.
use Rattle.std.proofs.Common.{List, ℕ, sym, ap₂, ◌∙◌}
use Rattle.page_diff.specs.Pack.{packed_by}
use Rattle.page_diff.proofs.PackLaws.{pack-length, pack_reserved, pack_given, packed_given}
use Rattle.page_diff.proofs.pack_changed_nodes.Goals as goal

pub returns-then-page-ne-PAGE_SIZE-clause-answer : goal.returns-then-page-ne-PAGE_SIZE-clause-answer
returns-then-page-ne-PAGE_SIZE-clause-answer c = sym (pack-length c.args.d.words c.args.page.now c.if-page-ne-PAGE_SIZE.true)

pub returns-then-is_reserved-clause-answer : goal.returns-then-is_reserved-clause-answer
returns-then-is_reserved-clause-answer c =
    sym (pack_reserved c.args.d.words c.args.page.now c.if-page-ne-PAGE_SIZE.false (sym c.is_reserved.ensures ∙ c.if-is_reserved.true))

pub returns-clause-answer : goal.returns-clause-answer
returns-clause-answer c =
    sym (pack_given c.args.d.words c.args.page.now c.if-page-ne-PAGE_SIZE.false (sym c.is_reserved.ensures ∙ c.if-is_reserved.false))

pub returns-clause-value : goal.returns-clause-value
returns-clause-value c =
    c.pack_up.ensures ∙ ap₂ (λ (t : List (List ℕ)) (n : ℕ). packed_by t n) c.pack_nodes.ensures c.count.ensures
    ∙ packed_given c.args.d.words c.args.page.now
    (pack_given c.args.d.words c.args.page.now c.if-page-ne-PAGE_SIZE.false (sym c.is_reserved.ensures ∙ c.if-is_reserved.false))
