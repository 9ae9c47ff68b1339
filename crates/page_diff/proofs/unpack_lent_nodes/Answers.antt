-- Each test answers as the definition does; with all passed the nodes are put back. Assumes nothing.
use Rattle.std.proofs.Common.{◌≡◌, false, sym, ◌∙◌}
use Rattle.page_diff.specs.Diff.{reserved}
use Rattle.page_diff.proofs.PackLaws.{unpack-length, unpack_reserved, unpack_count, unpack_given, unpacked_refused, unpacked_given}
use Rattle.page_diff.proofs.unpack_lent_nodes.Goals as goal

pub returns-then-page-ne-PAGE_SIZE : goal.returns-then-page-ne-PAGE_SIZE
returns-then-page-ne-PAGE_SIZE c =
    let a = c.args in
    let e = unpack-length a.d.words a.held a.page.now c.if-page-ne-PAGE_SIZE.true in
    (sym e, unpacked_refused a.d.words a.held a.page.now a.nodes.now 2 e)

pub returns-then-is_reserved : goal.returns-then-is_reserved
returns-then-is_reserved c =
    let a = c.args in
    let e = unpack_reserved a.d.words a.held a.page.now c.if-page-ne-PAGE_SIZE.false (sym c.is_reserved.ensures ∙ c.if-is_reserved.true) in
    (sym e, unpacked_refused a.d.words a.held a.page.now a.nodes.now 4 e)

pub returns-then-count-held : goal.returns-then-count-held
returns-then-count-held c =
    let a = c.args in
    let off : reserved a.d.words ≡ false = sym c.is_reserved.ensures ∙ c.if-is_reserved.false in
    let e = unpack_count a.d.words a.held a.page.now c.if-page-ne-PAGE_SIZE.false off (λ q. c.if-count-held.true (c.count.ensures ∙ sym q)) in
    (sym e, unpacked_refused a.d.words a.held a.page.now a.nodes.now 2 e)

pub returns : goal.returns
returns c =
    let a = c.args in
    let off : reserved a.d.words ≡ false = sym c.is_reserved.ensures ∙ c.if-is_reserved.false in
    let e = unpack_given a.d.words a.held a.page.now c.if-page-ne-PAGE_SIZE.false off (sym (sym c.count.ensures ∙ c.if-count-held.false)) in
    (sym e, c.unpack_nodes.ensures ∙ unpacked_given a.d.words a.held a.page.now a.nodes.now e)
