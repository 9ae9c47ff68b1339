-- Both counts are exact as f64, and divided once. Assumes nothing.
use Rattle.std.proofs.Common.{refl}
use Rattle.validate.specs.Audit.{rate_of}
use Rattle.validate.proofs.occupancy_rate.Goals as goal

pub returns : goal.returns
unfolding rate_of
returns c = refl
