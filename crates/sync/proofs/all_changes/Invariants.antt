-- What is left of the changes, on the memory and the state as they are, comes to what all of them do. Assumes nothing.
use Rattle.std.proofs.Common.{◌≡◌, ◌<◌, ℕ, drop, get_or}
use Rattle.sync.specs.Change.{mem_at, Same, Wide}
use Rattle.sync.proofs.WalkLaws.{goes_on, no_change}
use Rattle.sync.proofs.all_changes.Given as goal

abbrev pub invariant-loop-j : goal.invariant-loop-j
invariant-loop-j l = record {
  walked : goes_on (mem_at l.m) l.pages (drop l.j l.changes) l.j l.st
      ≡ goes_on (mem_at l.initial.m) l.pages l.changes 0 l.initial.st;
  wide : (k : ℕ) → k < l.j → Wide (get_or l.changes k no_change);
  same : Same l.fn.m l.m;
}
