-- Both tests are those of the definition. Assumes nothing.
use borrow.Author.Tests.{lt-leb, le-leb}
use Rattle.ht_file.proofs.count_allowed.Statement.{statement}
use Rattle.ht_file.proofs.count_allowed.Tie as tie

returns : tie.Need-returns-then-n-lt1
returns c = simp (lt-leb _ _ c.if-n-lt1.true)

returns-2 : tie.Need-returns
returns-2 c = simp (le-leb _ _ c.if-n-lt1.false)

pub count_allowed_spec : {M : Type 1} → statement M
count_allowed_spec = tie.close (tie.spec returns returns-2)
