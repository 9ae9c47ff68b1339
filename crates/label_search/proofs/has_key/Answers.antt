-- The three tests one after the other. Assumes nothing.
use Rattle.std.proofs.Common.{◌≡◌, rules, ap, sym, ◌∙◌, Bool, ◌&&◌}
use Rattle.bucket_set.specs.Numbers.{holds_in}
use Rattle.label_search.specs.InnerFilter.{cell_a, cell_b, cell_c, has_key}
use Rattle.label_search.proofs.has_key.Goals.{then-has, else-has}
use Rattle.label_search.proofs.has_key.Goals as goal

pub returns-then-has-2 : goal.returns-then-has-2
unfolding has_key
returns-then-has-2 c = search rules

pub returns-else-has-2 : goal.returns-else-has-2
unfolding has_key
returns-else-has-2 c =
    let f = c.args.filter.now in
    let key = c.args.key in
    let both =
    elim c.if-has.branch as (λ _. c.if-has.value ≡ (holds_in f (cell_a key) && holds_in f (cell_b key))) [
      | then-has w ↦ w.value-is ∙ w.has-then-has.ensures ∙ ap (λ (t : Bool). t && holds_in f (cell_b key)) (sym w.if-has.true ∙ c.has.ensures)
      | else-has w ↦ w.value-is ∙ w.if-has.false ∙ ap (λ (t : Bool). t && holds_in f (cell_b key)) (sym w.if-has.false ∙ c.has.ensures)
    ] in
    c.if-has-2.false ∙ ap (λ (t : Bool). t && holds_in f (cell_c key)) (sym c.if-has-2.false ∙ both)
