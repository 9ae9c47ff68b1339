-- A part of the image that is lent and comes back: what then stands where. Assumes nothing.
use mathlib.Core.Path.{◌≡◌, refl, sym, ap, ◌∙◌}
use mathlib.Core.List.{List, [], ◌∷◌, ◌++◌, append_assoc}
use borrow.Rule.Slice.PartMut.{put_mid, Post-is}
use Prim.Native.Nat.{ℕ, suc, ◌+◌, ◌-◌, ◌≤◌, ◌<◌}
use native.Mathlib.Omega.{arith}
use lib.ListN.{length, set, take, drop, length-drop}
use lib.Seq.{set_split, append_snoc, length-take-le}
use native.Mathlib.Numerals.{add-one}
use Rattle.blocks.specs.Blocks.{put}
use Rattle.blocks.proofs.Laws.{put_fits}

-- one byte written where there is one
pub one_set : (l : List ℕ) (v : ℕ) → length l ≡ 1 → set l 0 v ≡ v ∷ []
one_set [] v e = absurd (omega arith)
one_set (x ∷ []) v e = refl
one_set (x ∷ y ∷ l) v e = absurd (omega arith)

-- a part that comes back as other bytes of the same length: they are put there
pub part-put : (a e : ℕ) (s bs : List ℕ) → a ≤ e → e ≤ length s → length bs ≡ e - a → put_mid a (e - a) s bs ≡ put s a bs
part-put a e s bs h k l =
    let d : e ≡ a + length bs = omega arith in
    ap (λ (z : List ℕ). take a s ++ (bs ++ z)) (Post-is a e s h) ∙ sym (append_assoc (take a s) bs (drop e s))
    ∙ ap (λ (m : ℕ). (take a s ++ bs) ++ drop m s) d ∙ sym (put_fits s a bs (omega arith))

-- a part has the length that was asked
pub part_long : (a e : ℕ) (s : List ℕ) → a ≤ e → e ≤ length s → length (take (e - a) (drop a s)) ≡ e - a
part_long a e s h k = length-take-le (e - a) (drop a s) (omega (arith, length-drop a s))

-- a single byte put is a byte set
pub set-put : (s : List ℕ) (i v : ℕ) → i < length s → put s i (v ∷ []) ≡ set s i v
set-put s i v h =
    put_fits s i (v ∷ []) (omega arith) ∙ ap (λ (m : ℕ). (take i s ++ (v ∷ [])) ++ drop m s) (add-one i)
    ∙ append_snoc (take i s) v (drop (suc i) s) ∙ sym (set_split s i v h)
