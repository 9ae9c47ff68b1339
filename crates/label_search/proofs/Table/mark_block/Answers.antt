-- A bucket more of the first pass. Assumes nothing.
use Rattle.std.proofs.Common.{rules, ◌||◌, ◌-◌, get_or}
use Rattle.label_search.proofs.Passes.{mark_turn}
use Rattle.label_search.proofs.Table.mark_block.Goals as goal

pub loop-b-preserved : goal.loop-b-preserved
loop-b-preserved c =
    let l = c.loop-b in
    let a = c.args in
    let keys = c.label_keys-keys in
    let key = get_or keys.result (l.b - a.from) 0 in
    let t = c.note_label-some in
    mark_turn a.self.now.image.now a.self.now.n a.class.count a.class.index l.b key (keys.ensures.1 l.b l.auto.b c.loop-b-test.true) l.seen l.suspects t.new.seen t.new.suspects l.some (l.some || t.result) t.result l.invariant t.ensures
    (search rules) (search rules)
