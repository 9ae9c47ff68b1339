-- The test is the one that tells the kind. Assumes nothing.
use Rattle.meta_map.proofs.Laws.{kind_empty}
use mathlib.Core.Path.{sym}
use Rattle.meta_map.proofs.hint_empty.Statement.{statement}
use Rattle.meta_map.proofs.hint_empty.Tie as tie

returns : tie.Need-returns
returns c = sym (kind_empty c.args.tag)

pub hint_empty_spec : {M : Type 1} → statement M
hint_empty_spec = tie.close (tie.spec returns)
