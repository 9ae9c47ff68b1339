-- The three cells one after the other. Assumes nothing.
use Rattle.std.proofs.Common.{ap, ◌∙◌, List, ℕ}
use Rattle.bucket_set.specs.Numbers.{with_number}
use Rattle.label_search.specs.InnerFilter.{cell_b, cell_c, with_key}
use Rattle.label_search.proofs.add_key.Goals as goal

pub returns : goal.returns
unfolding with_key
returns c =
    let key = c.args.key in
    c.add-3.ensures ∙ ap (λ (f : List ℕ). with_number f (cell_c key)) (c.add-2.ensures ∙ ap (λ (f : List ℕ). with_number f (cell_b key)) c.add.ensures)
