-- The byte compared with is the full tag. Assumes nothing.
use Prim.Native.Nat.{ℕ}
use lib.Dec.{eqb}
use mathlib.Core.Bool.{not}
use mathlib.Core.Path.{ap}
use borrow.Author.Rules.{rules}
use Rattle.meta_map.proofs.hint_not_match.Statement.{statement}
use Rattle.meta_map.proofs.hint_not_match.Tie as tie

full-entry-requires : tie.Need-full_entry-requires
full-entry-requires c κs = search rules

returns : tie.Need-returns
returns c = ap (λ (t : ℕ). not (eqb c.before.args.tag t)) c.full_entry.ensures

pub hint_not_match_spec : {M : Type 1} → statement M
hint_not_match_spec = tie.close (tie.spec full-entry-requires returns)
