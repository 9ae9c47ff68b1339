-- The tests are those of the definition. Assumes nothing.
use borrow.Author.Tests.{lt-leb, le-leb}
use Rattle.ht_file.proofs.check_limits.Statement.{statement}
use Rattle.ht_file.proofs.check_limits.Tie as tie

returns : tie.Need-returns-then-c
returns c = simp (le-leb _ _ c.before.before.if-a.true, le-leb _ _ c.before.if-b.true, le-leb _ _ c.if-c.true)

returns-2 : tie.Need-returns-else-c
returns-2 c = simp (le-leb _ _ c.before.before.if-a.true, le-leb _ _ c.before.if-b.true, lt-leb _ _ c.if-c.false)

returns-3 : tie.Need-returns-else-b
returns-3 c = simp (le-leb _ _ c.before.if-a.true, lt-leb _ _ c.if-b.false)

returns-4 : tie.Need-returns-else-a
returns-4 c = simp (lt-leb _ _ c.if-a.false)

pub check_limits_spec : {M : Type 1} → statement M
check_limits_spec = tie.close (tie.spec returns returns-2 returns-3 returns-4)
