-- A turn puts the next node back at its slot; it ends when all are back. Assumes nothing.
use Rattle.std.proofs.Common.{arith, ◌≡◌, ◌<◌, List, ℕ, [], get_or, sym, ap, ◌∙◌}
use mathlib.Core.Logic.{inl}
use Rattle.page_diff.proofs.PackLaws.{put_up_to, put_none, put_turn, put_all}
use Rattle.page_diff.proofs.SlotLaws.{slots_few}
use Rattle.page_diff.proofs.Walk.{walk_begin, turn_on, turn_slot, turn_low, turn_step, walk_done, plain_count}
use Rattle.page_diff.proofs.unpack_nodes.Goals as goal
use Rattle.page_diff.proofs.unpack_nodes.Goals.{After-into_iter-c-iterator, In-Some}

-- the loop begins with all slots, and none counted
whole : (c : After-into_iter-c-iterator) → c.into_iter-c-iterator.result.iter.left.words ≡ c.args.d.words
whole c = cc (c.into_iter-c-iterator.ensures.into_iter_gives, c.enumerate-c-items.ensures.source, c.marked_slots.ensures)

none : (c : After-into_iter-c-iterator) → c.into_iter-c-iterator.result.count ≡ 0
none c = cc (c.into_iter-c-iterator.ensures.into_iter_gives, c.enumerate-c-items.ensures.count)

-- in a turn there is a node for the slot, and the slot is one of a node
few : (c : In-Some) → c.in-Some.c < 126
few c =
    omega (
      arith,
      turn_on c.args.d.words c.loop-c.c-iterator.iter.left.words c.next.new.self.iter.left.words c.loop-c.c-iterator.count c.in-Some.s c.loop-c.invariant.walk c.in-Some.ensures.steps.0,
      c.in-Some.ensures.steps.1,
      plain_count c.args.d.words c.requires.0,
    )

low : (c : In-Some) → c.in-Some.s < 126
low c = turn_low c.args.d.words c.loop-c.c-iterator.iter.left.words c.next.new.self.iter.left.words c.loop-c.c-iterator.count c.in-Some.s c.loop-c.invariant.walk c.in-Some.ensures.steps.0 c.requires.0

pub loop-c-init-derived : goal.loop-c-init-derived
loop-c-init-derived c = ((tt, tt, inl (omega (arith, none (goal.at.loop-c-init-derived c).After-into_iter-c-iterator, slots_few c.into_iter-c-iterator.result.iter.left.words 128))), tt)

pub loop-c-init : goal.loop-c-init
loop-c-init c =
    let b = (goal.at.loop-c-init c).After-into_iter-c-iterator in
    let a = c.args in
    record {
      walk = walk_begin a.d.words c.into_iter-c-iterator.result.iter.left.words c.into_iter-c-iterator.result.count (whole b) (none b);
      long = c.requires.1;
      bytes = λ j h. put_none a.d.words a.nodes.now a.page.now j ∙ ap (λ (n : ℕ). put_up_to a.d.words a.nodes.now a.page.now n j) (sym (none b));
    }

pub overflow_mul-s : goal.overflow_mul-s
overflow_mul-s c = omega (arith, low (goal.at.overflow_mul-s c).In-Some)

pub offset_bounds-nodes-c : goal.offset_bounds-nodes-c
offset_bounds-nodes-c c = omega (arith, few (goal.at.offset_bounds-nodes-c c).In-Some)

pub bounds-nodes-c : goal.bounds-nodes-c
bounds-nodes-c c = few (goal.at.bounds-nodes-c c).In-Some

pub loop-c-preserved : goal.loop-c-preserved
loop-c-preserved c =
    let turn = (goal.at.loop-c-preserved c).In-Some in
    let ws = c.args.d.words in
    let ls = c.loop-c.c-iterator.iter.left.words in
    let ms = c.next.new.self.iter.left.words in
    let ns = c.args.nodes.now in
    let k = c.loop-c.c-iterator.count in
    let s = c.in-Some.s in
    let walk = c.loop-c.invariant.walk in
    let steps = c.in-Some.ensures.steps in
    record {
      walk = turn_step ws ls ms k s walk steps.0 c.next.new.self.count steps.2;
      long = c.put_block.auto.s ∙ c.loop-c.invariant.long;
      bytes = λ j h.
          ap (λ (l : List ℕ). get_or l j 0) c.put_block.ensures.0
          ∙ put_turn ws ns c.args.page.now c.loop-c.page k s (turn_slot ws ls ms k s walk steps.0) (get_or ns c.in-Some.c []) (ap (λ (n : ℕ). get_or ns n []) steps.1) c.put_block.ensures.1
          c.loop-c.invariant.long (low turn) c.loop-c.invariant.bytes j h
          ∙ ap (λ (n : ℕ). put_up_to ws ns c.args.page.now n j) (sym steps.2);
    }

pub returns : goal.returns
returns c =
    let ws = c.args.d.words in
    put_all ws c.args.nodes.now c.args.page.now c.loop-c.page c.loop-c.c-iterator.count
    (walk_done ws c.loop-c.c-iterator.iter.left.words c.loop-c.c-iterator.count c.loop-c.invariant.walk c.in-None.ensures.steps.0.0) c.loop-c.invariant.long c.loop-c.invariant.bytes
