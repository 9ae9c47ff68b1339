-- What is left of the log answers what the whole does; each entry moves the position on. Assumes nothing.
use Rattle.std.proofs.Common.{◌≡◌, ◌-◌, length}
use Rattle.wal.specs.Reader.{edition_at}
use Rattle.recover.proofs.Checks.{CheckState}
use Rattle.recover.proofs.check_log.Given as goal

abbrev pub invariant-loop-head : goal.invariant-loop-head
invariant-loop-head l = record {
  by : l.edition ≡ edition_at l.log;
  state : CheckState l.rule l.n l.log l.at l.updates;
}

abbrev pub decreases-loop-head : goal.decreases-loop-head
decreases-loop-head l = length l.log - l.at
