-- A turn puts the node of the next slot into the table; it ends when all are there. Assumes nothing.
use Rattle.std.proofs.Common.{arith, ◌≡◌, ◌<◌, ℕ, take, sym, ap, ◌∙◌}
use mathlib.Core.Logic.{inl}
use Rattle.page_diff.specs.Diff.{slots, count_of}
use Rattle.page_diff.specs.Pack.{table_of}
use Rattle.page_diff.proofs.PackLaws.{table_none, table_turn, table_end}
use Rattle.page_diff.proofs.SlotLaws.{slots_few}
use Rattle.page_diff.proofs.Walk.{walk_begin, turn_on, turn_at, turn_low, turn_step, walk_done, plain_count}
use Rattle.page_diff.proofs.pack_nodes.Goals as goal
use Rattle.page_diff.proofs.pack_nodes.Goals.{After-into_iter-c-iterator, In-Some}

-- in a turn there is a node for the slot, and room in the table
on : (c : In-Some) → c.loop-c.c-iterator.count < count_of c.args.d.words
on c = turn_on c.args.d.words c.loop-c.c-iterator.iter.left.words c.next.new.self.iter.left.words c.loop-c.c-iterator.count c.in-Some.s c.loop-c.invariant.walk c.in-Some.ensures.steps.0

few : (c : In-Some) → c.in-Some.c < 126
few c = omega (arith, on c, c.in-Some.ensures.steps.1, plain_count c.args.d.words c.requires)

low : (c : In-Some) → c.in-Some.s < 126
low c = turn_low c.args.d.words c.loop-c.c-iterator.iter.left.words c.next.new.self.iter.left.words c.loop-c.c-iterator.count c.in-Some.s c.loop-c.invariant.walk c.in-Some.ensures.steps.0 c.requires

-- the loop begins with all slots, and none counted
whole : (c : After-into_iter-c-iterator) → c.into_iter-c-iterator.result.iter.left.words ≡ c.args.d.words
whole c = cc (c.into_iter-c-iterator.ensures.into_iter_gives, c.enumerate-c-items.ensures.source, c.marked_slots.ensures)

none : (c : After-into_iter-c-iterator) → c.into_iter-c-iterator.result.count ≡ 0
none c = cc (c.into_iter-c-iterator.ensures.into_iter_gives, c.enumerate-c-items.ensures.count)

pub loop-c-init-derived : goal.loop-c-init-derived
loop-c-init-derived c = ((tt, tt, inl (omega (arith, none (goal.at.loop-c-init-derived c).After-into_iter-c-iterator, slots_few c.into_iter-c-iterator.result.iter.left.words 128))), tt)

pub loop-c-init : goal.loop-c-init
loop-c-init c =
    let b = (goal.at.loop-c-init c).After-into_iter-c-iterator in
    record {
      walk = walk_begin c.args.d.words c.into_iter-c-iterator.result.iter.left.words c.into_iter-c-iterator.result.count (whole b) (none b);
      table = table_none c.args.page.now ∙ ap (λ (n : ℕ). table_of c.args.page.now (take n (slots c.args.d.words))) (sym (none b));
    }

pub overflow_mul-s : goal.overflow_mul-s
overflow_mul-s c = omega (arith, low (goal.at.overflow_mul-s c).In-Some)

pub offset_bounds-nodes-c : goal.offset_bounds-nodes-c
offset_bounds-nodes-c c = omega (arith, few (goal.at.offset_bounds-nodes-c c).In-Some)

pub bounds-nodes-c : goal.bounds-nodes-c
bounds-nodes-c c = few (goal.at.bounds-nodes-c c).In-Some

pub loop-c-preserved : goal.loop-c-preserved
loop-c-preserved c =
    let turn = (goal.at.loop-c-preserved c).In-Some in
    let ws = c.args.d.words in
    let ls = c.loop-c.c-iterator.iter.left.words in
    let ms = c.next.new.self.iter.left.words in
    let k = c.loop-c.c-iterator.count in
    let s = c.in-Some.s in
    let walk = c.loop-c.invariant.walk in
    let steps = c.in-Some.ensures.steps in
    let p = table_turn c.args.page.now (slots ws) c.loop-c.nodes k s c.loop-c.invariant.table (turn_at ws ls ms k s walk steps.0) (on turn) (omega (arith, few turn, steps.1)) in
    record {
      walk = turn_step ws ls ms k s walk steps.0 c.next.new.self.count steps.2;
      table = cc (p, c.block.ensures, steps.1, steps.2);
    }

pub returns : goal.returns
returns c =
    let ws = c.args.d.words in
    table_end c.args.page.now (slots ws) c.loop-c.nodes c.loop-c.c-iterator.count c.loop-c.invariant.table (walk_done ws c.loop-c.c-iterator.iter.left.words c.loop-c.c-iterator.count c.loop-c.invariant.walk c.in-None.ensures.steps.0.0)
