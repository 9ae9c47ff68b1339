-- At the head of the loop the buckets so far pass. Assumes nothing.
use Rattle.std.proofs.Common.{◌≡◌}
use Rattle.answers.specs.Answers.{given}
use Rattle.validate.specs.InnerAudit.{paths_to}
use Rattle.validate.proofs.check_buckets.Given as goal

abbrev pub invariant-loop-b : goal.invariant-loop-b
invariant-loop-b l = paths_to l.image l.n l.hashes l.b ≡ given tt
