-- Refused test by test; else the nodes are put at the front and zeros after them, which is the table. Assumes nothing.
use Rattle.std.proofs.Common.{arith, ◌≡◌, List, ℕ, ◌-◌, ◌*◌, ◌≤◌, false, sym, ap, ◌∙◌}
use lib.ListN.{replicate}
use Rattle.answers.specs.Answers.{given}
use Rattle.blocks.specs.Blocks.{put}
use Rattle.page_diff.specs.Diff.{reserved}
use Rattle.page_diff.proofs.Nodes.{nodes_plain}
use Rattle.page_diff.proofs.Walk.{plain_count}
use Rattle.page_diff.proofs.PackInto.{into_page, into_marks, into_memory, into_done, into_left, into_bytes}
use Rattle.page_diff.proofs.pack_into.Goals as goal
use Rattle.page_diff.proofs.pack_into.Goals.{After-count-count}

-- past the tests
plain : (c : After-count-count) → reserved c.args.d.words ≡ false
plain c = sym c.is_reserved.ensures ∙ c.if-is_reserved.false

few : (c : After-count-count) → c.count-count.result ≤ 126
few c = omega (arith, c.count-count.ensures, plain_count c.args.d.words (plain c))

pub returns-then-page-ne-PAGE_SIZE : goal.returns-then-page-ne-PAGE_SIZE
returns-then-page-ne-PAGE_SIZE c =
    let a = c.args in
    let e = into_page a.d.words a.page.now a.nodes.now c.if-page-ne-PAGE_SIZE.true in
    (sym e, into_left a.d.words a.page.now a.nodes.now 2 e)

pub returns-then-is_reserved : goal.returns-then-is_reserved
returns-then-is_reserved c =
    let a = c.args in
    let e = into_marks a.d.words a.page.now a.nodes.now c.if-page-ne-PAGE_SIZE.false (sym c.is_reserved.ensures ∙ c.if-is_reserved.true) in
    (sym e, into_left a.d.words a.page.now a.nodes.now 4 e)

pub returns-then-nodes-ne-NODES_SIZE : goal.returns-then-nodes-ne-NODES_SIZE
returns-then-nodes-ne-NODES_SIZE c =
    let a = c.args in
    let e = into_memory a.d.words a.page.now a.nodes.now c.if-page-ne-PAGE_SIZE.false (sym c.is_reserved.ensures ∙ c.if-is_reserved.false) c.if-nodes-ne-NODES_SIZE.true in
    (sym e, into_left a.d.words a.page.now a.nodes.now 2 e)

pub overflow_mul-used : goal.overflow_mul-used
overflow_mul-used c = omega (arith, few (goal.at.overflow_mul-used c).After-count-count)

pub overflow_sub-used : goal.overflow_sub-used
overflow_sub-used c = omega (arith, few (goal.at.overflow_sub-used c).After-count-count)

pub returns : goal.returns
returns c =
    let a = c.args in
    let off = plain (goal.at.returns c).After-count-count in
    let used : ℕ = 32 * c.count-count.result in (
      ap given c.count-count.ensures ∙ sym (into_done a.d.words a.page.now a.nodes.now c.if-page-ne-PAGE_SIZE.false off c.if-nodes-ne-NODES_SIZE.false),
      c.put_zeros.ensures ∙ ap (λ (l : List ℕ). put l used (replicate (4032 - used) 0)) (c.put_page_nodes.ensures ∙ nodes_plain a.nodes.now 0 a.d.words a.page.now off)
          ∙ into_bytes a.d.words a.page.now a.nodes.now used (ap (λ (k : ℕ). 32 * k) c.count-count.ensures) c.if-page-ne-PAGE_SIZE.false off c.if-nodes-ne-NODES_SIZE.false,
    )
