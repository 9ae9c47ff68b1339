-- No visit before this one is empty, a tombstone or a hit. Assumes nothing.
use Rattle.std.proofs.Common.{length}
use Rattle.probe.specs.Path.{stops_probe}
use Rattle.probe.proofs.Walk.{Walking}
use Rattle.probe.proofs.probe_from.Given as goal

abbrev pub invariant-loop-visit : goal.invariant-loop-visit
invariant-loop-visit l = Walking (stops_probe l.tags l.hash) (length l.tags) l.n l.hash l.start l.visit l.path
