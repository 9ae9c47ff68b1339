-- The test is the one that tells the kind. Assumes nothing.
use Rattle.meta_map.proofs.Laws.{kind_tombstone}
use mathlib.Core.Path.{sym}
use Rattle.meta_map.proofs.hint_tombstone.Statement.{statement}
use Rattle.meta_map.proofs.hint_tombstone.Tie as tie

returns : tie.Need-returns
returns c = sym (kind_tombstone c.args.tag)

pub hint_tombstone_spec : {M : Type 1} → statement M
hint_tombstone_spec = tie.close (tie.spec returns)
