-- By the test of the first count. Assumes nothing.
use mathlib.Core.Bool.{true, false}
use mathlib.Core.Path.{◌≡◌, sym, ◌∙◌}
use borrow.Author.Rules.{rules}
use Rattle.ht_file.specs.Places.{count_allowed}
use Rattle.ht_file.proofs.check_counts.Statement.{statement}
use Rattle.ht_file.proofs.check_counts.Tie as tie

count-allowed-requires : tie.Need-count_allowed-requires
count-allowed-requires c κs = search rules

check-count-requires : tie.Need-check_count-requires
check-count-requires c κs = search rules

returns : tie.Need-returns-then-count_allowed
returns c = let ok : count_allowed c.before.before.before.args.a ≡ true = sym c.before.before.count_allowed.ensures ∙ c.before.if-count_allowed.true in rw ok c.check_count.ensures

returns-2 : tie.Need-returns
returns-2 c = let no-count : count_allowed c.before.before.args.a ≡ false = sym c.before.count_allowed.ensures ∙ c.if-count_allowed.false in simp no-count

pub check_counts_spec : {M : Type 1} → statement M
check_counts_spec = tie.close (tie.spec count-allowed-requires check-count-requires returns returns-2)
