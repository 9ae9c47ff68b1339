-- The test is the one that tells the kind. Assumes nothing.
use Rattle.meta_map.proofs.Laws.{kind_full}
use mathlib.Core.Path.{sym}
use Rattle.meta_map.proofs.is_full.Statement.{statement}
use Rattle.meta_map.proofs.is_full.Tie as tie

returns : tie.Need-returns
returns c = sym (kind_full c.args.tag)

pub is_full_spec : {M : Type 1} → statement M
is_full_spec = tie.close (tie.spec returns)
