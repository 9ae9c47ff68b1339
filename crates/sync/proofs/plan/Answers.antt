-- Bit 126, then what the place names, then the tag rule: each as the definition has it. Assumes nothing.
use Rattle.std.proofs.Common.{◌≡◌, ◌∙◌, sym, ap, rules, Bool, cond, Ok, Err}
use Rattle.answers.specs.Answers.{Answer, given, refused}
use Rattle.answers.specs.Refusals.{number_of}
use Rattle.answers.proofs.Laws.{given_one}
use Rattle.page_diff.specs.Diff.{marked}
use Rattle.sync_parts.specs.Parts.{Named, bucket, none, named_by, name_said}
use Rattle.sync_parts.specs.declared.Where.{Where}
use Rattle.sync.specs.Change.{by_named, does_of, allocates}
use Rattle.sync.specs.InnerChange.{planned_said}
use Rattle.sync.proofs.Plans.{plan_spare, plan_by}
use Rattle.sync.proofs.plan.Goals as goal
use Rattle.sync.proofs.plan.Goals.{After-name_of}

-- past bit 126 the plan goes by what the place names
by_name : (c : After-name_of) (a : Answer Named) → a ≡ name_said c.name_of.result
    → does_of c.args.n c.args.tags.now c.args.cells.now c.args.c ≡ by_named c.cleared-clearing.result c.args.n c.args.tags.now c.args.c.hash a
by_name c a e =
    let x = c.args in
    plan_by x.n x.tags.now x.cells.now x.c c.cleared-clearing.result a (sym (given_one _ (marked x.c.diff.words 126) c.in_ok-spare.ensures) ∙ c.if-spare.false) c.cleared-clearing.ensures
    (e ∙ c.name_of.ensures ∙ ap (λ (w : Where). named_by w x.cells.now) c.into.ensures)

pub returns-then-spare : goal.returns-then-spare
returns-then-spare c =
    let x = c.args in
    sym (plan_spare x.n x.tags.now x.cells.now x.c (sym (given_one _ (marked x.c.diff.words 126) c.in_ok-spare.ensures) ∙ c.if-spare.true))

pub returns-in_err-name : goal.returns-in_err-name
returns-in_err-name c =
    let why = c.in_err-name.field-0.0 in
    let gone : c.from_residual-in_err-name.result ≡ Err why = search rules in
    ap planned_said gone ∙ sym (by_name (goal.at.returns-in_err-name c).After-name_of (refused (number_of why)) (sym (ap name_said c.in_err-name.was)))

pub returns-in-Some : goal.returns-in-Some
returns-in-Some c =
    c.plan_named.ensures ∙ sym (by_name (goal.at.returns-in-Some c).After-name_of (given (bucket c.in-Some.b)) (sym (ap name_said (c.in_ok-name.was ∙ ap Ok c.in-Some.is))))

-- no bucket is named: a clear is refused, and an update allocates
pub returns-in-None : goal.returns-in-None
returns-in-None c =
    sym (by_name (goal.at.returns-in-None c).After-name_of (given none) (sym (ap name_said (c.in_ok-name.was ∙ ap Ok c.in-None.is)))
    ∙ ap (λ (b : Bool). cond b (refused 14) (given allocates)) c.if-clearing.true)

pub returns-in-None-2 : goal.returns-in-None-2
returns-in-None-2 c =
    sym (by_name (goal.at.returns-in-None-2 c).After-name_of (given none) (sym (ap name_said (c.in_ok-name.was ∙ ap Ok c.in-None.is)))
    ∙ ap (λ (b : Bool). cond b (refused 14) (given allocates)) c.if-clearing.false)
