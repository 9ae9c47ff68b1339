-- A bucket more of the second pass. Assumes nothing.
use Rattle.std.proofs.Common.{◌≡◌, sym, ◌∙◌, true, false, ◌-◌, get_or}
use mathlib.Core.Bool.{true≢false}
use Rattle.label_search.specs.Labels.{doubled}
use Rattle.label_search.proofs.Passes.{seek_turn}
use Rattle.label_search.proofs.Table.seek_block.Goals.{then-seek_label+else-is_doubled, else-seek_label}
use Rattle.label_search.proofs.Table.seek_block.Goals as goal

pub loop-b-preserved : goal.loop-b-preserved
loop-b-preserved c =
    let l = c.loop-b in
    let a = c.args in
    let keys = c.label_keys-keys in
    let key = get_or keys.result (l.b - a.from) 0 in
    let r = c.seek_label.result in
    let searched : r ≡ true → doubled a.self.now.image.now a.self.now.n l.b ≡ false =
    elim c.if-seek_label.branch [
      | then-seek_label+else-is_doubled w ↦ λ q. sym w.is_doubled.ensures ∙ w.if-is_doubled.false
      | else-seek_label w ↦ λ q. absurd (true≢false (sym q ∙ w.if-seek_label.false))
    ] in
    seek_turn a.self.now.image.now a.self.now.n a.class.count a.class.index l.b key (keys.ensures.1 l.b l.auto.b c.loop-b-test.true) a.to a.suspects.now l.seen c.seek_label.new.seen r c.requires.3 c.loop-b-test.true l.invariant c.seek_label.ensures searched
