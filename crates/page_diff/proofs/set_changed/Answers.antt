-- The word with the slot's bit set and bit 127 dropped has the marks of the definition. Assumes nothing.
use Rattle.std.proofs.Common.{rules, ◌≡◌, length, get_or}
use borrow.Author.Tests.{le-leb}
use mir.Syntax.{w64}
use mir.Val.{Fits}
use Rattle.page_diff.proofs.MarkLaws.{set_words}
use Rattle.page_diff.proofs.set_changed.Goals as goal

pub returns-clause-value : goal.returns-clause-value
returns-clause-value c =
    let ws = c.args.d.words in
    let long : length ws ≡ 2 = search rules in
    let f : Fits w64 (get_or ws 0 0) = search rules in
    let g : Fits w64 (get_or ws 1 0) = search rules in
    let small = c.if-slot-gt125.false in
    simp (le-leb _ _ small) (set_words ws c.args.slot long f.fits g.fits small)
