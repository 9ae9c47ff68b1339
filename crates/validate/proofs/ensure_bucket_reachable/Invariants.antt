-- The walk passes visits that are neither the bucket nor empty. Assumes nothing.
use Rattle.std.proofs.Common.{◌≡◌}
use Rattle.probe.specs.Path.{visit}
use Rattle.probe.proofs.Walk.{Passed}
use Rattle.validate.specs.Audit.{stops_reach}
use Rattle.validate.proofs.ensure_bucket_reachable.Given as goal

abbrev pub invariant-loop-k : goal.invariant-loop-k
invariant-loop-k l = (l.bucket ≡ visit l.n l.hash l.k) × Passed (stops_reach l.image l.b) l.n l.hash 0 l.k
