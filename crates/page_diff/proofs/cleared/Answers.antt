-- Bit 127 is set exactly where the high word reaches 2 ^ 63. Assumes nothing.
use Rattle.std.proofs.Common.{rules, get_or}
use mir.Syntax.{w64}
use mir.Val.{Fits}
use Rattle.page_diff.proofs.MarkLaws.{cleared_test}
use Rattle.page_diff.proofs.cleared.Goals as goal

pub returns : goal.returns
returns c = let f : Fits w64 (get_or c.args.d.words 1 0) = search rules in cleared_test c.args.d.words f.fits
