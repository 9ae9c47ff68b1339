-- The tests are those of the definition. Assumes nothing.
use borrow.Author.Tests.{le-leb}
use Rattle.page_diff.specs.Diff.{digit, marked}
use Rattle.page_diff.proofs.changed.Goals as goal

pub returns : goal.returns
unfolding marked digit
returns c = simp (le-leb _ _ c.if-slot-gt127.false)
