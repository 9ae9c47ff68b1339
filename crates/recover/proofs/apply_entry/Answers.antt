-- An image that is no table's is refused. Assumes nothing.
use Rattle.std.proofs.Common.{rules, ℕ, sym}
use Rattle.answers.specs.Refusals.{number_of}
use Rattle.recover.proofs.Steps.{step_unfit}
use Rattle.recover.proofs.apply_entry.Goals as goal

pub returns-in_err-check_image : goal.returns-in_err-check_image
returns-in_err-check_image c =
    let a = c.args in
    let k : ℕ = number_of c.in_err-check_image.field-0.0 in
    let e = step_unfit a.rule a.n a.image.now a.edition a.log.now a.at a.hash k (sym c.in_err-check_image.ensures) in
    search rules
