-- No visit before this one stops the definition's lookup. Assumes nothing.
use Rattle.std.proofs.Common.{length}
use Rattle.probe.specs.Path.{stops_lookup}
use Rattle.probe.proofs.Walk.{Walking}
use Rattle.probe.proofs.lookup.Given as goal

abbrev pub invariant-loop-visit : goal.invariant-loop-visit
invariant-loop-visit l = Walking (stops_lookup l.image l.n l.hash l.id) (length l.image) l.n l.hash 0 l._visit l.path
