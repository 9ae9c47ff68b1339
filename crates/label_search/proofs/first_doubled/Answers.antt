-- What either way finds is the first doubled bucket. Assumes nothing.
use Rattle.std.proofs.Common.{sym, ap, ◌∙◌}
use Rattle.answers.specs.Answers.{given}
use Rattle.ht_file.proofs.Laws.{table_fits}
use Rattle.label_search.proofs.Firsts.{first_found, first_given}
use Rattle.label_search.proofs.first_doubled.Goals as goal

pub returns : goal.returns
returns c =
    let a = c.args in
    ap given (first_found a.image.now a.n c.first_bucket.result c.first_bucket.ensures) ∙ sym (first_given a.image.now a.n (table_fits _ (sym c.in_ok-check_image.ensures)))
