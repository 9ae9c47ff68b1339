-- The bucket is computed as the visit is defined, with the hash reduced first. Assumes nothing.
use Rattle.std.proofs.Common.{refl}
use Rattle.probe.proofs.Visits.{visit_from}
use Rattle.probe.proofs.ProbeSequence.new.Goals as goal

pub returns : goal.returns
returns c = (refl, (visit_from c.args.n c.args.hash c.args.k), refl)
