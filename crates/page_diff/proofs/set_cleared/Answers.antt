-- Bit 63 of the high word is the mark of a cleared page. Assumes nothing.
use Rattle.std.proofs.Common.{rules, get_or}
use mir.Syntax.{w64}
use mir.Val.{Fits}
use Rattle.page_diff.proofs.MarkLaws.{cleared_words_lem}
use Rattle.page_diff.proofs.set_cleared.Goals as goal

pub returns : goal.returns
returns c =
    let ws = c.args.d.words in
    let f : Fits w64 (get_or ws 0 0) = search rules in
    let g : Fits w64 (get_or ws 1 0) = search rules in
    cleared_words_lem ws f.fits g.fits
