-- The widths of a change's parts, out of what their types say of them; and of a whole list, change by change. Assumes nothing.
use mathlib.Core.List.{List, [], ◌∷◌}
use Prim.Native.Nat.{ℕ, zero, suc, ◌<◌, ◌^◌}
use native.Mathlib.Omega.{arith}
use lib.ListN.{length, get_or}
use mir.Val.{Val}
use denote.Array.{each}
use denote.Builtin.{u64}
use denote.Laws.{Is}
use denote.Shadow.{shadow}
use borrow.Author.Rules.{rules}
use Rattle.sync.specs.Change.{Wide, AllWide, none_wide, more_wide}
use Rattle.sync.specs.declared.Change.{Change}
use Rattle.sync.specs.contracts.Change as T

-- each element of an array of u64 fits
elements_fit : (xs : List ℕ) (us : List Val) → shadow (each ℕ u64.own_val xs us) → (i : ℕ) → get_or xs i 0 < 2 ^ 64
elements_fit [] us s i = omega arith
elements_fit (x ∷ xs) [] s i = absurd s
elements_fit (x ∷ xs) (u ∷ us) s zero = s.0.1
elements_fit (x ∷ xs) (u ∷ us) s (suc i) = elements_fit xs us s.1 i

pub typed_wide : (c : Change) (vs : List Val) → Is T.the_row c vs → Wide c
typed_wide c vs is =
    let words = is.1.1.1.1.0.1.1.0 in
    record {
      id_long = search rules;
      two_words = search rules;
      low_word = elements_fit c.diff.words words.0 words.1.1 0;
      high_word = elements_fit c.diff.words words.0 words.1.1 1;
    }

-- all of a list are, where each is
pub all_wide : (d : Change) (cs : List Change) → ((i : ℕ) → i < length cs → Wide (get_or cs i d)) → AllWide cs
all_wide d [] f = none_wide
all_wide d (c ∷ cs) f = more_wide (f 0 (omega arith)) (all_wide d cs (λ i l. f (suc i) (omega arith)))
