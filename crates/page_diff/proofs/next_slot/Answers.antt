-- The lowest set digit is the first slot, and the word without it has the other marks. Assumes nothing.
use Rattle.std.proofs.Common.{rules, arith, get_or, sym}
use lib.Count.{trailing_le}
use mir.Syntax.{w64}
use mir.Val.{Fits}
use Rattle.page_diff.proofs.Digits.{lowest_found}
use Rattle.page_diff.proofs.NextLaws.{low_first, low_rest, high_first, high_rest, no_first}
use Rattle.page_diff.proofs.next_slot.Goals as goal

pub returns-then-lo-ne0 : goal.returns-then-lo-ne0
returns-then-lo-ne0 c =
    let ws = c.args.d.words in
    let f : Fits w64 (get_or ws 0 0) = search rules in
    let g : Fits w64 (get_or ws 1 0) = search rules in
    (omega (arith, trailing_le 64 (get_or ws 0 0)), (sym (low_first ws f.fits g.fits c.if-lo-ne0.true), low_rest ws f.fits g.fits c.if-lo-ne0.true))

pub returns-then-hi-ne0 : goal.returns-then-hi-ne0
returns-then-hi-ne0 c =
    let ws = c.args.d.words in
    let f : Fits w64 (get_or ws 0 0) = search rules in
    let g : Fits w64 (get_or ws 1 0) = search rules in
    (omega (arith, lowest_found 64 (get_or ws 1 0) g.fits c.if-hi-ne0.true), (sym (high_first ws f.fits g.fits c.if-lo-ne0.false c.if-hi-ne0.true), high_rest ws f.fits g.fits c.if-lo-ne0.false c.if-hi-ne0.true))

pub returns : goal.returns
returns c =
    let ws = c.args.d.words in
    let f : Fits w64 (get_or ws 0 0) = search rules in
    let g : Fits w64 (get_or ws 1 0) = search rules in
    no_first ws f.fits g.fits c.if-lo-ne0.false c.if-hi-ne0.false
