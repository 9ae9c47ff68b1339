-- A turn puts the next node; it ends when `held` are put. Assumes nothing.
use Rattle.std.proofs.Common.{arith, ◌≡◌, ◌+◌, ◌*◌, List, ℕ, [], length, get_or, take, sym, ap, ◌∙◌, subst}
use lib.Seq.{get_or-take, length-take-le}
use borrow.Author.Count.{below_more}
use Rattle.blocks.specs.Blocks.{put, flat}
use Rattle.wal.specs.Run.{Rows}
use Rattle.page_diff.proofs.Nodes.{nodes_start, table_turn}
use Rattle.wal_write.proofs.put_nodes.Goals as goal

pub loop-c-init : goal.loop-c-init
loop-c-init c = record { put_so_far = nodes_start c.args.log.now c.args.at c.args.nodes.now (omega (arith, c.requires.1)); rows = λ i h. absurd (omega arith) }

pub loop-c-preserved : goal.loop-c-preserved
loop-c-preserved c =
    let a = c.args in
    let k = c.loop-c.c in
    let l : length (take a.held a.nodes.now) ≡ a.held = length-take-le a.held a.nodes.now (omega (arith, c.requires.0, c.told-nodes)) in
    let row : get_or (take a.held a.nodes.now) k [] ≡ get_or a.nodes.now k [] = get_or-take a.held a.nodes.now k [] (omega (arith, l, c.loop-c-test.true)) in
    let wide : length (get_or a.nodes.now k []) ≡ 32 = ap length (sym row) ∙ c.put_block.ensures.1 in
    record {
      put_so_far =
          table_turn a.log.now a.at a.nodes.now c.loop-c.log k c.loop-c.invariant.put_so_far c.put_block.new.s
          (c.put_block.ensures.0 ∙ ap (λ (n : List ℕ). put c.loop-c.log (a.at + 32 * k) n) row) wide (omega (arith, l, c.loop-c-test.true, c.requires.1));
      rows = below_more _ _ c.loop-c.invariant.rows wide;
    }

pub returns : goal.returns
returns c =
    let a = c.args in
    let inv = c.loop-c.invariant.put_so_far in
    let l : length (take a.held a.nodes.now) ≡ a.held = length-take-le a.held a.nodes.now (omega (arith, c.requires.0, c.told-nodes)) in
    let all : c.loop-c.c ≡ a.held = omega (arith, l, c.loop-c-test.false, c.loop-c.auto.c-end) in (
      inv.there ∙ ap (λ (k : ℕ). put a.log.now a.at (flat (take k a.nodes.now))) all,
      ap (λ (k : ℕ). length (flat (take k a.nodes.now))) (sym all) ∙ inv.wide ∙ ap (λ (k : ℕ). 32 * k) all,
      subst (Rows a.nodes.now) all c.loop-c.invariant.rows,
    )
