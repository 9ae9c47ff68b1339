-- Where the answer is `applied` the log was checked. Assumes nothing.
use Rattle.std.proofs.Common.{Ok, length, sym, ap, ◌∙◌}
use Rattle.recover.specs.Replay.{recovered_said}
use Rattle.recover.specs.declared.Recovered.{Recovered}
use Rattle.recover.proofs.Replays.{applied_told}
use Rattle.recover.proofs.Endings.{check_tolerant}
use Rattle.recover.proofs.recover.Goals as goal

pub run-requires : goal.run-requires
run-requires c =
    let a = c.args in
    let told = applied_told a.rule a.n (length a.image.now) a.log.now a.want (length a.hashes.now) (sym c.in_ok-did.ensures ∙ ap (λ (d : Recovered). recovered_said (Ok d)) c.in-Applied.is) in
    (told.0, check_tolerant a.rule a.n a.log.now (length a.hashes.now) told.1)
