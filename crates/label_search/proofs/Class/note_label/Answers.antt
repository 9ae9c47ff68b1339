-- The label is a suspect, or is new. Assumes nothing.
use Rattle.std.proofs.Common.{sym, List, ℕ, true, false}
use mathlib.Core.Path.{subst}
use Rattle.label_search.specs.InnerFilter.{Noted}
use Rattle.label_search.proofs.Passes.{noted_suspect, noted_new}
use Rattle.label_search.proofs.Class.note_label.Goals as goal

pub returns-then-has_key : goal.returns-then-has_key
returns-then-has_key c =
    let a = c.args in
    subst (λ (x : List ℕ). Noted a.self.count a.self.index a.tag a.key a.seen.now a.suspects.now a.seen.now x true) (sym c.add_key.ensures)
    (noted_suspect a.self.count a.self.index a.tag a.key a.seen.now a.suspects.now c.told-seen c.told-suspects (sym c.if-has_key.ensures))

pub returns-else-has_key : goal.returns-else-has_key
returns-else-has_key c =
    let a = c.args in
    subst (λ (x : List ℕ). Noted a.self.count a.self.index a.tag a.key a.seen.now a.suspects.now x a.suspects.now false) (sym c.add_key-then-has.ensures)
    (noted_new a.self.count a.self.index a.tag a.key a.seen.now a.suspects.now c.told-seen c.told-suspects (sym c.if-has_key.ensures))
