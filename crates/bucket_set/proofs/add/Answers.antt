-- The word's bit is set; past the words nothing is. Assumes nothing.
use Rattle.std.proofs.Common.{arith}
use Rattle.std.proofs.lemmas.Grind.{common_steps}
use Rattle.std.proofs.lemmas.Nat.{one_shl}
use Rattle.bucket_set.specs.Numbers.{with_number}
use Rattle.bucket_set.proofs.Laws.{past_add}
use Rattle.bucket_set.proofs.add.Goals as goal

pub returns-then-w-set : goal.returns-then-w-set
unfolding with_number
returns-then-w-set c = grind (arith, common_steps, one_shl)

pub returns-else-w-set : goal.returns-else-w-set
returns-else-w-set c = grind (arith, common_steps, past_add)
