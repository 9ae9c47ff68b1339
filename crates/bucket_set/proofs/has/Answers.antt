-- The word is that of the definition, 0 past the words; the test is that of its bit. Assumes nothing.
use Rattle.std.proofs.Common.{arith}
use Rattle.std.proofs.lemmas.Grind.{common_steps}
use Rattle.page_diff.specs.Diff.{digit, marked}
use Rattle.bucket_set.proofs.has.Goals as goal

pub returns : goal.returns
unfolding marked digit
returns c = grind (arith, common_steps)
