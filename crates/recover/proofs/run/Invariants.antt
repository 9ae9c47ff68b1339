-- k steps make replay of the first k entries. Assumes nothing.
use Rattle.std.proofs.Common.{◌≡◌, ◌-◌, length}
use Rattle.wal.specs.Reader.{edition_at}
use Rattle.wal.specs.declared.AfterEnd.TheVariants.{Tolerant}
use Rattle.recover.proofs.Runs.{Running}
use Rattle.recover.proofs.run.Given as goal

abbrev pub invariant-loop-next : goal.invariant-loop-next
invariant-loop-next l = record {
  by : l.edition ≡ edition_at l.log;
  running : Running Tolerant l.n l.log l.hashes l.fn.image l.image l.at l.used;
}

abbrev pub decreases-loop-next : goal.decreases-loop-next
decreases-loop-next l = length l.log - l.at
