-- The end in words; and where there is none, both rules read the same. Assumes nothing.
use Rattle.std.proofs.Common.{◌≡◌, List, ℕ, Result, Ok, ap, ◌∙◌, subst, arith}
use mathlib.Core.Logic.{⊎_elim}
use Rattle.answers.specs.declared.Refusal.{Refusal}
use Rattle.wal.proofs.Endings.{next_differs}
use Rattle.wal.specs.Reader.{Next, next_by}
use Rattle.wal.specs.declared.AfterEnd.TheVariants.{Zeros, Tolerant}
use Rattle.wal.specs.declared.Edition.{Edition}
use Rattle.wal_read.proofs.Answered.{head_one}
use Rattle.wal_read.proofs.ReadLaws.{head_end}
use Rattle.wal_read.specs.Head.{head_of, head_said}
use Rattle.wal_read.specs.declared.Head.{Head}
use Rattle.wal_read.specs.declared.Head.TheVariants.{End}
use Rattle.numbers.specs.Numbers.{edition_of}
use Rattle.bitbox.specs.Words.{Read}
use Rattle.bitbox.proofs.bitbox_reader_next_tolerant.Goals as goal

same_next : (ed : Edition) (log : List ℕ) (at : ℕ) (h : Result Head Refusal) → head_said h ≡ head_of (next_by Tolerant ed log at) → (h ≡ Ok End → ⊥) → next_by Zeros ed log at ≡ next_by Tolerant ed log at
same_next ed log at h said not_end =
    ⊎_elim (λ e. e) (λ d. absurd (not_end (head_one h (Ok End) (said ∙ ap head_of d.0)))) (next_differs Zeros ed log at)

pub returns-in_default : goal.returns-in_default
returns-in_default c =
    let said : head_said c.head_at.result ≡ head_of (next_by Tolerant (edition_of c.args.edition) c.args.log.now c.args.at) = cc in
    let other : c.head_at.result ≡ Ok End → ⊥ = grind arith in
    subst (λ (n : Next). Read n c.args.at c.bitbox_reader_next.result) (same_next (edition_of c.args.edition) c.args.log.now c.args.at c.head_at.result said other) c.bitbox_reader_next.ensures

pub returns-in-Ok-End : goal.returns-in-Ok-End
returns-in-Ok-End c = grind (arith, head_end)
