-- A turn puts the next node of the log at its slot; it ends when all are put. Assumes nothing.
use Rattle.std.proofs.Common.{arith, ◌≡◌, ◌+◌, ◌*◌, ◌-◌, ◌<◌, List, ℕ, [], length, get_or, sym, ap, ◌∙◌}
use mathlib.Core.Logic.{inl}
use borrow.Rule.Slice.PartMut.{put_mid}
use Rattle.blocks.specs.Blocks.{block, put}
use Rattle.blocks.proofs.Laws.{put-length}
use Rattle.page_diff.specs.Diff.{count_of}
use Rattle.page_diff.proofs.PackLaws.{put_up_to, put_none, put_turn, put_all}
use Rattle.page_diff.proofs.SlotLaws.{slots_few}
use Rattle.page_diff.proofs.Walk.{walk_begin, turn_on, turn_slot, turn_low, turn_step, walk_done}
use Rattle.wal.specs.Reader.{nodes_from}
use Rattle.recover.proofs.Pages.{nodes_at_lem}
use Rattle.recover.proofs.Parts.{part-put}
use Rattle.recover.proofs.write_slots.Goals as goal
use Rattle.recover.proofs.write_slots.Goals.{After-into_iter-c-iterator, In-Some}

-- the loop begins with all slots, and none counted
whole : (c : After-into_iter-c-iterator) → c.into_iter-c-iterator.result.iter.left.words ≡ c.args.d.words
whole c = cc (c.into_iter-c-iterator.ensures.into_iter_gives, c.enumerate-c-items.ensures.source, c.marked_slots.ensures)

none : (c : After-into_iter-c-iterator) → c.into_iter-c-iterator.result.count ≡ 0
none c = cc (c.into_iter-c-iterator.ensures.into_iter_gives, c.enumerate-c-items.ensures.count)

-- in a turn the slot is one of a node
low : (c : In-Some) → c.in-Some.s < 126
low c = turn_low c.args.d.words c.loop-c.c-iterator.iter.left.words c.next.new.self.iter.left.words c.loop-c.c-iterator.count c.in-Some.s c.loop-c.invariant.walk c.in-Some.ensures.steps.0 c.requires.1

pub loop-c-init-derived : goal.loop-c-init-derived
loop-c-init-derived c = ((tt, tt, inl (omega (arith, none (goal.at.loop-c-init-derived c).After-into_iter-c-iterator, slots_few c.into_iter-c-iterator.result.iter.left.words 128))), tt)

pub loop-c-init : goal.loop-c-init
loop-c-init c =
    let b = (goal.at.loop-c-init c).After-into_iter-c-iterator in
    let a = c.args in
    let ns = nodes_from a.log.now a.from (count_of a.d.words) in
    record {
      walk = walk_begin a.d.words c.into_iter-c-iterator.result.iter.left.words c.into_iter-c-iterator.result.count (whole b) (none b);
      long = c.requires.0;
      bytes = λ j h. put_none a.d.words ns a.page.now j ∙ ap (λ (n : ℕ). put_up_to a.d.words ns a.page.now n j) (sym (none b));
    }

pub overflow_mul-a : goal.overflow_mul-a
overflow_mul-a c = omega (arith, low (goal.at.overflow_mul-a c).In-Some)

pub overflow_add-e : goal.overflow_add-e
overflow_add-e c = omega (arith, low (goal.at.overflow_add-e c).In-Some)

pub slice_bounds-write_node-end : goal.slice_bounds-write_node-end
slice_bounds-write_node-end c = omega (arith, low (goal.at.slice_bounds-write_node-end c).In-Some, c.loop-c.invariant.long)

pub loop-c-preserved : goal.loop-c-preserved
loop-c-preserved c =
    let turn = (goal.at.loop-c-preserved c).In-Some in
    let ws = c.args.d.words in
    let ls = c.loop-c.c-iterator.iter.left.words in
    let ms = c.next.new.self.iter.left.words in
    let ns = nodes_from c.args.log.now c.args.from (count_of ws) in
    let k : ℕ = c.loop-c.c-iterator.count in
    let s : ℕ = c.in-Some.s in
    let page : List ℕ = c.loop-c.page in
    let node : List ℕ = c.block-node.result in
    let walk = c.loop-c.invariant.walk in
    let long = c.loop-c.invariant.long in
    let steps = c.in-Some.ensures.steps in
    let put_there : put_mid (32 * s) (32 * s + 32 - 32 * s) page c.write_node.new.part ≡ put page (32 * s) node =
    ap (put_mid (32 * s) (32 * s + 32 - 32 * s) page) c.write_node.ensures.0 ∙ part-put (32 * s) (32 * s + 32) page node (omega arith) (omega (arith, low turn, long)) (omega (arith, c.write_node.ensures.1)) in
    let read : node ≡ get_or ns k [] =
    c.block-node.ensures ∙ ap (λ (n : ℕ). block 32 c.args.log.now (c.args.from + 32 * n)) steps.1
    ∙ sym (nodes_at_lem c.args.log.now c.args.from (count_of ws) k (turn_on ws ls ms k s walk steps.0)) in
    record {
      walk = turn_step ws ls ms k s walk steps.0 c.next.new.self.count steps.2;
      long = ap length put_there ∙ put-length page (32 * s) node ∙ long;
      bytes = λ j h.
          ap (λ (l : List ℕ). get_or l j 0) put_there
          ∙ put_turn ws ns c.args.page.now page k s (turn_slot ws ls ms k s walk steps.0) node read c.write_node.ensures.1
          long (low turn) c.loop-c.invariant.bytes j h
          ∙ ap (λ (n : ℕ). put_up_to ws ns c.args.page.now n j) (sym steps.2);
    }

pub returns : goal.returns
returns c =
    let ws = c.args.d.words in
    put_all ws (nodes_from c.args.log.now c.args.from (count_of ws)) c.args.page.now c.loop-c.page c.loop-c.c-iterator.count
    (walk_done ws c.loop-c.c-iterator.iter.left.words c.loop-c.c-iterator.count c.loop-c.invariant.walk c.in-None.ensures.steps.0.0) c.loop-c.invariant.long c.loop-c.invariant.bytes
