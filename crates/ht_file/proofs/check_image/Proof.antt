-- For an allowed count a page starts where the length says, and for another the count refuses. Assumes nothing.
use mathlib.Core.Path.{sym, ap, ◌∙◌}
use mathlib.Core.Bool.{Bool}
use borrow.Author.Rules.{rules}
use Rattle.answers.specs.Answers.{given}
use Rattle.ht_file.specs.Places.{image_length, if_table}
use Rattle.ht_file.proofs.Laws.{image_end, fits_by_start, unfit_by_start}
use Rattle.ht_file.proofs.check_image.Statement.{statement}
use Rattle.ht_file.proofs.check_image.Tie as tie

page-start-requires : tie.Need-page_start-requires
page-start-requires c κs = search rules

check-count-requires : tie.Need-check_count-requires
check-count-requires c κs = search rules

returns : tie.Need-returns-then-len-page_start
returns c =
    let start = c.before.before in
    let n = start.before.args.n in
    c.check_count.ensures ∙ ap (λ (fits : Bool). if_table fits (given tt)) (sym (fits_by_start n n start.before.args.len (image_length n) (image_end n) (c.before.if-len-page_start.true ∙ start.page_start.ensures)))

returns-2 : tie.Need-returns
returns-2 c =
    let n = c.before.before.args.n in
    let unfit = unfit_by_start n n c.before.before.args.len (image_length n) (image_end n) (λ e. c.if-len-page_start.false (e ∙ sym c.before.page_start.ensures)) in
    simp unfit

pub check_image_spec : {M : Type 1} → statement M
check_image_spec = tie.close (tie.spec page-start-requires check-count-requires returns returns-2)
