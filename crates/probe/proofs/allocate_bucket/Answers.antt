-- A bucket that is found has a tag. Assumes nothing.
use Rattle.std.proofs.Common.{sym, arith}
use Rattle.probe.proofs.Allocating.{answer_below}
use Rattle.probe.proofs.allocate_bucket.Goals as goal

pub bounds-tags-bucket : goal.bounds-tags-bucket
bounds-tags-bucket c =
    let a = c.args in
    omega (arith, answer_below a.limit a.tags.now a.n a.hash c.in_ok-bucket.bucket (sym c.in_ok-bucket.ensures))
