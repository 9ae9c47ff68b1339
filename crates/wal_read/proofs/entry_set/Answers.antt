-- A refused start is the refusal at each position. Assumes nothing.
use Rattle.std.proofs.Common.{Result, ℕ, ap}
use Rattle.answers.specs.Answers.{answer_of}
use Rattle.answers.specs.declared.Refusal.{Refusal}
use Rattle.wal_read.specs.Set.{gives_at}
use Rattle.wal_read.proofs.Answered.{bare_stop}
use Rattle.wal_read.proofs.entry_set.Goals as goal

pub returns-in-Err : goal.returns-in-Err
returns-in-Err c =
    let a = c.args in
    bare_stop a.at c.bare.result (gives_at a.rule (answer_of a.start) a.log.now a.at) c.in-Err.at_start
    (ap (λ (s : Result ℕ Refusal). gives_at a.rule (answer_of s) a.log.now a.at) c.in-Err.is) c.bare.ensures
