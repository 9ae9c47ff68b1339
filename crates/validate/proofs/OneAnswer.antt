-- A promise names one answer only. Assumes nothing.
use mathlib.Core.Path.{◌≡◌}
use Rattle.std.specs.Prelude.{Result}
use Rattle.answers.specs.Answers.{answer_of}
use Rattle.answers.specs.declared.Refusal.{Refusal}
use Rattle.answers.proofs.Laws.{answer_one}
use Rattle.validate.specs.declared.Audit.{Audit}

pub one_audited : (r s : Result Audit Refusal) → answer_of r ≡ answer_of s → r ≡ s
one_audited r s e = answer_one r s e
