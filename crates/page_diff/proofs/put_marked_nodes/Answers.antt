-- A turn puts the node of the next slot after those that are done; it ends when all are. Assumes nothing.
use Rattle.std.proofs.Common.{arith, ◌≡◌, ◌+◌, ◌*◌, ◌<◌, List, ℕ, map, sym, ap, ◌∙◌, subst}
use lib.ListN.{length-map}
use mathlib.Core.Logic.{inl}
use Rattle.blocks.specs.Blocks.{put}
use Rattle.page_diff.specs.Diff.{slots, count_of}
use Rattle.page_diff.specs.Pack.{node_at}
use Rattle.page_diff.proofs.Nodes.{Nodes, nodes_start, page_turn, nodes_end}
use Rattle.page_diff.proofs.SlotLaws.{slots_few}
use Rattle.page_diff.proofs.Walk.{walk_begin, turn_on, turn_at, turn_low, turn_step, walk_done}
use Rattle.page_diff.proofs.put_marked_nodes.Goals as goal
use Rattle.page_diff.proofs.put_marked_nodes.Goals.{After-into_iter-c-iterator, In-Some}

-- the loop begins with all slots, and none counted
whole : (c : After-into_iter-c-iterator) → c.into_iter-c-iterator.result.iter.left.words ≡ c.args.d.words
whole c = cc (c.into_iter-c-iterator.ensures.into_iter_gives, c.enumerate-c-items.ensures.source, c.marked_slots.ensures)

none : (c : After-into_iter-c-iterator) → c.into_iter-c-iterator.result.count ≡ 0
none c = cc (c.into_iter-c-iterator.ensures.into_iter_gives, c.enumerate-c-items.ensures.count)

-- in a turn there is a slot left, and it is one of a node
on : (c : In-Some) → c.in-Some.c < count_of c.args.d.words
on c =
    omega (
      arith,
      turn_on c.args.d.words c.loop-c.c-iterator.iter.left.words c.next.new.self.iter.left.words c.loop-c.c-iterator.count c.in-Some.slot c.loop-c.invariant.walk c.in-Some.ensures.steps.0,
      c.in-Some.ensures.steps.1,
    )

low : (c : In-Some) → c.in-Some.slot < 126
low c = turn_low c.args.d.words c.loop-c.c-iterator.iter.left.words c.next.new.self.iter.left.words c.loop-c.c-iterator.count c.in-Some.slot c.loop-c.invariant.walk c.in-Some.ensures.steps.0 c.requires.0

pub loop-c-init-derived : goal.loop-c-init-derived
loop-c-init-derived c = ((tt, tt, inl (omega (arith, none (goal.at.loop-c-init-derived c).After-into_iter-c-iterator, slots_few c.into_iter-c-iterator.result.iter.left.words 128))), tt)

pub loop-c-init : goal.loop-c-init
loop-c-init c =
    let b = (goal.at.loop-c-init c).After-into_iter-c-iterator in
    let ns : List (List ℕ) = map (node_at c.args.page.now) (slots c.args.d.words) in
    record {
      walk = walk_begin c.args.d.words c.into_iter-c-iterator.result.iter.left.words c.into_iter-c-iterator.result.count (whole b) (none b);
      nodes = subst (λ (n : ℕ). Nodes c.args.s.now c.args.at ns c.args.s.now n) (sym (none b)) (nodes_start c.args.s.now c.args.at ns (omega (arith, c.requires.1)));
    }

pub overflow_mul-slot : goal.overflow_mul-slot
overflow_mul-slot c = omega (arith, low (goal.at.overflow_mul-slot c).In-Some)

pub loop-c-preserved : goal.loop-c-preserved
loop-c-preserved c =
    let turn = (goal.at.loop-c-preserved c).In-Some in
    let ws = c.args.d.words in
    let ls = c.loop-c.c-iterator.iter.left.words in
    let ms = c.next.new.self.iter.left.words in
    let k = c.loop-c.c-iterator.count in
    let i = c.in-Some.slot in
    let walk = c.loop-c.invariant.walk in
    let steps = c.in-Some.ensures.steps in
    record {
      walk = turn_step ws ls ms k i walk steps.0 c.next.new.self.count steps.2;
      nodes = subst (λ (n : ℕ). Nodes c.args.s.now c.args.at (map (node_at c.args.page.now) (slots ws)) c.put_block.new.s n) (sym steps.2)
          (page_turn c.args.s.now c.args.at c.args.page.now (slots ws) c.loop-c.s k i c.loop-c.invariant.nodes (turn_at ws ls ms k i walk steps.0)
          (turn_on ws ls ms k i walk steps.0) (omega (arith, on turn, steps.1, c.requires.1)) c.put_block.new.s
          (c.put_block.ensures.0 ∙ ap (λ (n : List ℕ). put c.loop-c.s (c.args.at + 32 * c.in-Some.c) n) c.block.ensures
          ∙ ap (λ (n : ℕ). put c.loop-c.s (c.args.at + 32 * n) (node_at c.args.page.now i)) steps.1));
    }

pub returns : goal.returns
returns c =
    let ws = c.args.d.words in
    nodes_end c.args.s.now c.args.at (map (node_at c.args.page.now) (slots ws)) c.loop-c.s c.loop-c.c-iterator.count c.loop-c.invariant.nodes
    (walk_done ws c.loop-c.c-iterator.iter.left.words c.loop-c.c-iterator.count c.loop-c.invariant.walk c.in-None.ensures.steps.0.0 ∙ sym (length-map (slots ws) (node_at c.args.page.now)))
