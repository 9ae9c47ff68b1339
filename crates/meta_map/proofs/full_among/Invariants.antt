-- The counter is the count of the tags passed. Assumes nothing.
use Rattle.std.proofs.Common.{◌≡◌, ◌≤◌}
use Rattle.meta_map.specs.Tags.{full, count_of}
use Rattle.meta_map.proofs.full_among.Given as goal

abbrev pub invariant-loop-tag : goal.invariant-loop-tag
invariant-loop-tag l = record {
  counted : l.count ≡ count_of full l.tags l.tag-index;
  few : l.count ≤ l.tag-index;
}
