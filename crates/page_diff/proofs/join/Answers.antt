-- Each word of the join has the marks of either. Assumes nothing.
use Rattle.std.proofs.Common.{rules, get_or}
use mir.Syntax.{w64}
use mir.Val.{Fits}
use Rattle.page_diff.proofs.MarkLaws.{join_words}
use Rattle.page_diff.proofs.join.Goals as goal

pub returns : goal.returns
returns c =
    let a = c.args.a.words in
    let b = c.args.b.words in
    let f : Fits w64 (get_or a 0 0) = search rules in
    let g : Fits w64 (get_or a 1 0) = search rules in
    let h : Fits w64 (get_or b 0 0) = search rules in
    let k : Fits w64 (get_or b 1 0) = search rules in
    join_words a b f.fits g.fits h.fits k.fits
