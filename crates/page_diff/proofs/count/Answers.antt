-- The ones of both words are the marks of all slots. Assumes nothing.
use Rattle.std.proofs.Common.{rules, get_or}
use mir.Syntax.{w64}
use mir.Val.{Fits}
use Rattle.page_diff.proofs.SlotLaws.{counted}
use Rattle.page_diff.proofs.count.Goals as goal

pub returns : goal.returns
returns c =
    let ws = c.args.d.words in
    let f : Fits w64 (get_or ws 0 0) = search rules in
    let g : Fits w64 (get_or ws 1 0) = search rules in
    counted ws f.fits g.fits
