-- What is not put is told test by test; else the nodes are put. Assumes nothing.
use Rattle.std.proofs.Common.{arith, ◌≡◌, ◌≤◌, false, sym, ◌∙◌}
use Rattle.page_diff.specs.Diff.{reserved}
use Rattle.page_diff.proofs.Nodes.{nodes_short}
use Rattle.page_diff.proofs.Walk.{plain_count}
use Rattle.page_diff.proofs.put_page_nodes.Goals as goal
use Rattle.page_diff.proofs.put_page_nodes.Goals.{After-count-size}

-- past the first test: a diff of nodes alone, with its count
plain : (c : After-count-size) → reserved c.args.d.words ≡ false
plain c = sym c.is_reserved.ensures ∙ c.if-is_reserved.false

few : (c : After-count-size) → c.count-size.result ≤ 126
few c = omega (arith, c.count-size.ensures, plain_count c.args.d.words (plain c))

pub overflow_mul-size : goal.overflow_mul-size
overflow_mul-size c = omega (arith, few (goal.at.overflow_mul-size c).After-count-size)

pub returns-then-s-size : goal.returns-then-s-size
returns-then-s-size c =
    sym (nodes_short c.args.s.now c.args.at c.args.d.words c.args.page.now (plain (goal.at.returns-then-s-size c).After-count-size) (omega (arith, c.count-size.ensures, c.if-s-size.true)))

pub returns-then-s-size-2 : goal.returns-then-s-size-2
returns-then-s-size-2 c =
    sym (nodes_short c.args.s.now c.args.at c.args.d.words c.args.page.now (plain (goal.at.returns-then-s-size-2 c).After-count-size)
    (omega (arith, c.count-size.ensures, c.if-s-size.false, c.if-s-size-2.true)))
