-- A loop along the marked slots: what it knows at its head, what a turn adds, where it ends. Assumes nothing.
use mathlib.Core.Path.{◌≡◌, refl, sym, ap, ◌∙◌, subst}
use mathlib.Core.Bool.{Bool, true, false, not, ◌&&◌, ◌||◌, true≢false}
use mathlib.Core.List.{List, [], ◌∷◌}
use Prim.Native.Nat.{ℕ, ◌+◌, ◌≤◌, ◌<◌}
use native.Mathlib.Nat.{lt_of_not-le}
use native.Mathlib.Decide.{dec_le}
use native.Mathlib.Omega.{arith}
use lib.Dec.{eqb}
use lib.ListN.{length, get_or, drop, length-drop, get_or-eq_default}
use lib.Seq.{get_or-drop, drop-drop}
use Rattle.page_diff.specs.Diff.{marked, slots_below, slots, count_of, reserved, first_slot, without_first}
use Rattle.page_diff.proofs.MarkLaws.{of_marks_lem}
use Rattle.page_diff.proofs.SlotLaws.{SlotAt, slot_at, slots_skip, slots_few, rest_slots}

-- the slots of the marks without the first
pub without_slots : (ws ls : List ℕ) → ls ≡ without_first ws → slots ls ≡ drop 1 (slots ws)
without_slots ws ls e =
    rest_slots ws ls (λ s h. ap (λ (l : List ℕ). marked l s) e ∙ of_marks_lem (λ t. marked ws t && not (eqb t (first_slot ws))) s h)

-- c slots are done, and ls has the marks that are left
pub record Walk (ws ls : List ℕ) (c : ℕ) : Type 0 where
  pub left : slots ls ≡ drop c (slots ws)
  pub upto : c ≤ count_of ws

module _ (ws ls : List ℕ) (c s : ℕ) (w : Walk ws ls c) (first : s ≡ first_slot ls) where
  -- the next slot
  pub walk_at : s ≡ get_or (slots ws) c 128
  walk_at = let z : c + 0 ≡ c = omega arith in first ∙ ap (λ (l : List ℕ). get_or l 0 128) w.left ∙ get_or-drop c (slots ws) 0 128 ∙ ap (λ (i : ℕ). get_or (slots ws) i 128) z

  -- a turn is made at a slot of the diff
  pub walk_on : s < 128 → c < count_of ws
  walk_on h = go (dec_le (count_of ws) c)
    where
      go : Dec (count_of ws ≤ c) → c < count_of ws
      go (yes p) = absurd (omega (arith, walk_at, get_or-eq_default (slots ws) 128 {n = c} p))
      go (no p) = lt_of_not-le p

  pub walk_slot : s < 128 → SlotAt ws 128 c s
  walk_slot h = subst (SlotAt ws 128 c) (sym walk_at) (slot_at ws 128 c 128 (walk_on h))

  pub walk_step : (ms : List ℕ) → s < 128 → ms ≡ without_first ls → Walk ws ms (c + 1)
  walk_step ms h e = record { left = without_slots ls ms e ∙ ap (drop 1) w.left ∙ drop-drop 1 c (slots ws); upto = omega (arith, walk_on h) }

-- a diff of nodes alone has no mark from 126 on
pub plain_unmarked : (ws : List ℕ) → reserved ws ≡ false → (s : ℕ) → 126 ≤ s → s < 128 → marked ws s ≡ false
plain_unmarked ws e s h k = go (marked ws 126) refl (dec_le 127 s)
  where
    go : (b : Bool) → marked ws 126 ≡ b → Dec (127 ≤ s) → marked ws s ≡ false
    go true f d = absurd (true≢false (sym (ap (λ (b : Bool). b || marked ws 127) f) ∙ e))
    go false f (yes p) =
        let q : s ≡ 127 = omega arith in
        ap (marked ws) q ∙ sym (ap (λ (b : Bool). b || marked ws 127) f) ∙ e
    go false f (no p) = let q : s ≡ 126 = omega arith in ap (marked ws) q ∙ f

pub plain_slots : (ws : List ℕ) → reserved ws ≡ false → slots ws ≡ slots_below ws 126
plain_slots ws e = slots_skip ws 126 128 (omega arith) (plain_unmarked ws e)

pub plain_count : (ws : List ℕ) → reserved ws ≡ false → count_of ws ≤ 126
plain_count ws e = omega (arith, ap length (plain_slots ws e), slots_few ws 126)

-- it ends when all slots are done
pub walk_end : (ws ls : List ℕ) (c s : ℕ) → Walk ws ls c → s ≡ first_slot ls → reserved ws ≡ false → 126 ≤ s → c ≡ count_of ws
walk_end ws ls c s w f e h = go (dec_le (count_of ws) c)
  where
    go : Dec (count_of ws ≤ c) → c ≡ count_of ws
    go (yes p) = omega (arith, w.upto)
    go (no p) =
        let a : SlotAt ws 128 c s = subst (SlotAt ws 128 c) (sym (walk_at ws ls c s w f)) (slot_at ws 128 c 128 (lt_of_not-le p)) in
        absurd (true≢false (sym a.has_mark ∙ plain_unmarked ws e s h a.below))

-- in a turn the slot is one of a node
pub walk_low : (ws ls : List ℕ) (c s : ℕ) → Walk ws ls c → s ≡ first_slot ls → s < 128 → reserved ws ≡ false → s < 126
walk_low ws ls c s w f h e = go (dec_le 126 s)
  where
    go : Dec (126 ≤ s) → s < 126
    go (yes p) = absurd (true≢false (sym (walk_slot ws ls c s w f h).has_mark ∙ plain_unmarked ws e s p h))
    go (no p) = lt_of_not-le p

-- ---- the slots of a diff, one by one: the first and the slots of the rest, or none
cons_first : (l : List ℕ) (s : ℕ) → s < 128 → s ≡ get_or l 0 128 → l ≡ s ∷ drop 1 l
cons_first [] s h e = absurd (omega (arith, e))
cons_first (x ∷ l) s h e = ap (λ (y : ℕ). y ∷ l) (sym e)

pub slots_first : (ws ls : List ℕ) (s : ℕ) → s < 128 → s ≡ first_slot ws → ls ≡ without_first ws → slots ws ≡ s ∷ slots ls
slots_first ws ls s h f e = cons_first (slots ws) s h f ∙ ap (λ (l : List ℕ). s ∷ l) (sym (without_slots ws ls e))

none_there : (l : List ℕ) → length l ≤ 0 → l ≡ []
none_there [] h = refl
none_there (x ∷ l) h = absurd (omega arith)

pub no_slots : (ws : List ℕ) → first_slot ws ≡ 128 → slots ws ≡ []
no_slots ws e = go (dec_le (count_of ws) 0)
  where
    go : Dec (count_of ws ≤ 0) → slots ws ≡ []
    go (yes p) = none_there (slots ws) p
    go (no p) = absurd (omega (arith, e, (slot_at ws 128 0 128 (lt_of_not-le p)).below))

-- ---- a loop over the slots begins with all of them
pub walk_begin : (ws ls : List ℕ) (c : ℕ) → ls ≡ ws → c ≡ 0 → Walk ws ls c
walk_begin ws ls c p q = record { left = ap slots p ∙ ap (λ (n : ℕ). drop n (slots ws)) (sym q); upto = omega (arith, q) }

-- in a turn s is taken, and ms has those that are left
module _ (ws ls ms : List ℕ) (c s : ℕ) (w : Walk ws ls c) (e : slots ls ≡ s ∷ slots ms) where
  here : drop c (slots ws) ≡ s ∷ slots ms
  here = sym w.left ∙ e

  pub turn_on : c < count_of ws
  turn_on = omega (arith, ap length here, length-drop c (slots ws))

  pub turn_at : s ≡ get_or (slots ws) c 128
  turn_at = let z : c + 0 ≡ c = omega arith in sym (ap (λ (l : List ℕ). get_or l 0 128) here) ∙ get_or-drop c (slots ws) 0 128 ∙ ap (λ (i : ℕ). get_or (slots ws) i 128) z

  pub turn_slot : SlotAt ws 128 c s
  turn_slot = subst (SlotAt ws 128 c) (sym turn_at) (slot_at ws 128 c 128 turn_on)

  pub turn_step : (k : ℕ) → k ≡ c + 1 → Walk ws ms k
  turn_step k q = record { left = sym (ap (drop 1) here) ∙ drop-drop 1 c (slots ws) ∙ ap (λ (n : ℕ). drop n (slots ws)) (sym q); upto = omega (arith, turn_on) }

  -- of a diff of nodes alone it is the slot of a node
  pub turn_low : reserved ws ≡ false → s < 126
  turn_low p = go (dec_le 126 s)
    where
      go : Dec (126 ≤ s) → s < 126
      go (yes h) = absurd (true≢false (sym turn_slot.has_mark ∙ plain_unmarked ws p s h turn_slot.below))
      go (no h) = lt_of_not-le h

-- the loop ends when all are done
pub walk_done : (ws ls : List ℕ) (c : ℕ) → Walk ws ls c → slots ls ≡ [] → c ≡ count_of ws
walk_done ws ls c w e = omega (arith, ap length w.left, ap length e, length-drop c (slots ws), w.upto)
