-- Bit 126 or 127 is set exactly where the high word reaches 2 ^ 62. Assumes nothing.
use Rattle.std.proofs.Common.{rules, get_or}
use mir.Syntax.{w64}
use mir.Val.{Fits}
use Rattle.page_diff.proofs.MarkLaws.{reserved_test}
use Rattle.page_diff.proofs.is_reserved.Goals as goal

pub returns : goal.returns
returns c = let f : Fits w64 (get_or c.args.d.words 1 0) = search rules in reserved_test c.args.d.words f.fits
