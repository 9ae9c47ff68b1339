-- Bytes put part by part are put whole; lists one after the other, told part by part. Assumes nothing.
use mathlib.Core.Path.{◌≡◌, refl, sym, ap, ◌∙◌}
use mathlib.Core.List.{List, [], ◌∷◌, ◌++◌}
use Prim.Native.Nat.{ℕ, suc, ◌+◌, ◌≤◌, ◌<◌}
use native.Mathlib.Numerals.{add-one}
use native.Mathlib.Omega.{arith}
use lib.ListN.{length, set, take, drop}
use lib.Seq.{set_split, append_snoc}
use Rattle.std.proofs.lemmas.Grind.{common_steps}
use Rattle.blocks.specs.Blocks.{put, flat}
use Rattle.blocks.proofs.Laws.{put_fits, put-append}

pub put_nothing : (s : List ℕ) (at : ℕ) → at ≤ length s → s ≡ put s at []
put_nothing s at h = grind (arith, common_steps, put_fits)

-- a byte stored is a byte put
pub set-put : (s : List ℕ) (at b : ℕ) → at < length s → set s at b ≡ put s at (b ∷ [])
set-put s at b h =
    set_split s at b h ∙ sym (append_snoc (take at s) b (drop (suc at) s)) ∙ ap (λ (n : ℕ). take at s ++ (b ∷ []) ++ drop n s) (sym (add-one at))
    ∙ sym (put_fits s at (b ∷ []) (omega arith))

-- the place of the second part is known by an equation
pub put_then : (s : List ℕ) (at next : ℕ) (bs cs : List ℕ) → next ≡ at + length bs → next + length cs ≤ length s → put (put s at bs) next cs ≡ put s at (bs ++ cs)
put_then s at next bs cs e h = grind (arith, put-append)

pub flat-snoc : (ns : List (List ℕ)) (n : List ℕ) → flat (ns ++ (n ∷ [])) ≡ flat ns ++ n
unfolding flat
flat-snoc [] n = grind (arith, common_steps)
flat-snoc (m ∷ ns) n = grind (arith, common_steps, flat-snoc ns n)

pub flat_append : (ns ms : List (List ℕ)) → flat (ns ++ ms) ≡ flat ns ++ flat ms
unfolding flat
flat_append [] ms = refl
flat_append (n ∷ ns) ms = grind (arith, common_steps, flat_append ns ms)
