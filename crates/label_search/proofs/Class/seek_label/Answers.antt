-- The label is new. Assumes nothing.
use Rattle.std.proofs.Common.{sym, List, ℕ, false}
use mathlib.Core.Path.{subst}
use Rattle.label_search.specs.InnerFilter.{Sought}
use Rattle.label_search.proofs.Passes.{sought_new}
use Rattle.label_search.proofs.Class.seek_label.Goals as goal

pub returns-else-has_key-2 : goal.returns-else-has_key-2
returns-else-has_key-2 c =
    let a = c.args in
    subst (λ (x : List ℕ). Sought a.self.count a.self.index a.tag a.key a.suspects.now a.seen.now x false) (sym c.add_key.ensures)
    (sought_new a.self.count a.self.index a.tag a.key a.suspects.now a.seen.now c.told-seen (sym c.if-has_key-2.ensures))
