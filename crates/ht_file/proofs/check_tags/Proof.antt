-- For an allowed count a page starts where the length says, and for another the count refuses. Assumes nothing.
use mathlib.Core.Path.{sym, ap, ◌∙◌}
use mathlib.Core.Bool.{Bool}
use borrow.Author.Rules.{rules}
use Rattle.answers.specs.Answers.{given}
use Rattle.ht_file.specs.Places.{tags_length, if_table}
use Rattle.ht_file.proofs.Laws.{tags_end, fits_by_start, unfit_by_start}
use Rattle.ht_file.proofs.check_tags.Statement.{statement}
use Rattle.ht_file.proofs.check_tags.Tie as tie

page-start-requires : tie.Need-page_start-requires
page-start-requires c κs = search rules

check-count-requires : tie.Need-check_count-requires
check-count-requires c κs = search rules

returns : tie.Need-returns-then-len-page_start
returns c =
    let start = c.before.before in
    let n = start.before.args.n in
    c.check_count.ensures ∙ ap (λ (fits : Bool). if_table fits (given tt)) (sym (fits_by_start n 0 start.before.args.len (tags_length n) (tags_end n) (c.before.if-len-page_start.true ∙ start.page_start.ensures)))

returns-2 : tie.Need-returns
returns-2 c =
    let n = c.before.before.args.n in
    let unfit = unfit_by_start n 0 c.before.before.args.len (tags_length n) (tags_end n) (λ e. c.if-len-page_start.false (e ∙ sym c.before.page_start.ensures)) in
    simp unfit

pub check_tags_spec : {M : Type 1} → statement M
check_tags_spec = tie.close (tie.spec page-start-requires check-count-requires returns returns-2)
