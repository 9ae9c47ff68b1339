-- By the test of the count. Assumes nothing.
use mathlib.Core.Bool.{true, false}
use mathlib.Core.Path.{◌≡◌, sym, ◌∙◌}
use borrow.Author.Rules.{rules}
use Rattle.ht_file.specs.Places.{count_allowed}
use Rattle.ht_file.proofs.check_count.Statement.{statement}
use Rattle.ht_file.proofs.check_count.Tie as tie

count-allowed-requires : tie.Need-count_allowed-requires
count-allowed-requires c κs = search rules

returns : tie.Need-returns-then-count_allowed
returns c = let ok : count_allowed c.before.before.args.n ≡ true = sym c.before.count_allowed.ensures ∙ c.if-count_allowed.true in simp ok

returns-2 : tie.Need-returns
returns-2 c = let no-count : count_allowed c.before.before.args.n ≡ false = sym c.before.count_allowed.ensures ∙ c.if-count_allowed.false in simp no-count

pub check_count_spec : {M : Type 1} → statement M
check_count_spec = tie.close (tie.spec count-allowed-requires returns returns-2)
