-- Laws of the marked slots as a rising list: what stands at an index, its rank, its length, the first and the others. Assumes nothing.
use mathlib.Core.Path.{◌≡◌, refl, sym, ap, ap₂, ◌∙◌, subst}
use mathlib.Core.Logic.{◌⊎◌, inl, inr, ⊎_elim}
use mathlib.Core.Bool.{Bool, true, false, not, ◌&&◌, and-true, and-false}
use mathlib.Core.List.{List, [], ◌∷◌, ◌++◌, append-nil}
use Prim.Native.Nat.{ℕ, zero, suc, ◌+◌, ◌-◌, ◌%◌, ◌^◌, ◌≤◌, ◌<◌, zero-le}
use native.Mathlib.Nat.{eq-or-lt_of_le, lt_of_not-le, mod-one, mod-eq_of_lt, add_comm, add_assoc, add-zero, zero-add, suc-add}
use native.Mathlib.Decide.{dec_le}
use native.Mathlib.Omega.{arith}
use lib.Dec.{eqb}
use lib.ListN.{length, get_or, drop, length-append, get_or-append, get_or-eq_default}
use lib.Seq.{get_or-append-add, drop-append-le, drop-nil}
use lib.Count.{ones}
use borrow.Author.Tests.{eq-eqb, ne_eqb}
use Rattle.page_diff.specs.Diff.{digit, marked, just, slots_below, slots, count_of, first_slot}
use Rattle.page_diff.proofs.Digits.{digit_lt, ones_more}
use Rattle.page_diff.proofs.MarkLaws.{bit, mark_low, mark_high}

just_short : (b : Bool) (s : ℕ) → length (just b s) ≤ 1
just_short true s = omega arith
just_short false s = omega arith

module _ (ws : List ℕ) where
  pub slots_next : (s : ℕ) → marked ws s ≡ true → slots_below ws (suc s) ≡ slots_below ws s ++ (s ∷ [])
  unfolding slots_below
  slots_next s e = ap (λ (b : Bool). slots_below ws s ++ just b s) e

  pub slots_pass : (s : ℕ) → marked ws s ≡ false → slots_below ws (suc s) ≡ slots_below ws s
  unfolding slots_below
  slots_pass s e = ap (λ (b : Bool). slots_below ws s ++ just b s) e ∙ append-nil (slots_below ws s)

  pub slots_none : slots_below ws 0 ≡ []
  unfolding slots_below
  slots_none = refl

  -- with no mark from p up to q, the marked slots below q are those below p
  pub slots_skip : (p q : ℕ) → p ≤ q → ((s : ℕ) → p ≤ s → s < q → marked ws s ≡ false) → slots_below ws q ≡ slots_below ws p
  slots_skip p zero h f = let e : 0 ≡ p = omega arith in ap (slots_below ws) e
  slots_skip p (suc q) h f =
      ⊎_elim (λ e. ap (slots_below ws) (sym e))
      (λ l. slots_pass q (f q (omega arith) (omega arith)) ∙ slots_skip p q (omega arith) (λ s u v. f s u (omega arith)))
      (eq-or-lt_of_le h)

  slots_step : (n : ℕ) → slots_below ws (suc n) ≡ slots_below ws n ++ just (marked ws n) n
  unfolding slots_below
  slots_step n = refl

  pub slots_few : (n : ℕ) → length (slots_below ws n) ≤ n
  slots_few zero = omega (arith, ap length slots_none)
  slots_few (suc n) =
      omega (arith, ap length (slots_step n), length-append (slots_below ws n) (just (marked ws n) n), just_short (marked ws n) n, slots_few n)

  -- a longer list begins with the shorter
  pub slots_longer : (n k : ℕ) → length (slots_below ws n) ≤ length (slots_below ws (k + n))
  slots_longer n zero = let e : 0 + n ≡ n = omega arith in omega (arith, ap (λ (m : ℕ). length (slots_below ws m)) e)
  slots_longer n (suc k) =
      omega (
        arith,
        slots_longer n k,
        ap length (ap (slots_below ws) (suc-add k n) ∙ slots_step (k + n)),
        length-append (slots_below ws (k + n)) (just (marked ws (k + n)) (k + n)),
      )

  pub slots_prefix : (n k i d : ℕ) → i < length (slots_below ws n) → get_or (slots_below ws (k + n)) i d ≡ get_or (slots_below ws n) i d
  slots_prefix n zero i d h = let e : 0 + n ≡ n = omega arith in ap (λ (m : ℕ). get_or (slots_below ws m) i d) e
  slots_prefix n (suc k) i d h =
      ap (λ (l : List ℕ). get_or l i d) (ap (slots_below ws) (suc-add k n) ∙ slots_step (k + n))
      ∙ get_or-append (slots_below ws (k + n)) (just (marked ws (k + n)) (k + n)) d i (omega (arith, slots_longer n k))
      ∙ slots_prefix n k i d h

-- slot s stands at index c of the marked slots: it is marked, and c marked slots come before it
pub record SlotAt (ws : List ℕ) (n c s : ℕ) : Type 0 where
  pub below : s < n
  pub has_mark : marked ws s ≡ true
  pub ranked : length (slots_below ws s) ≡ c

module _ (ws : List ℕ) where
  -- the slot at index c, below n + 1: it stands at c already below n, or it is n
  at_step : (n c : ℕ) (b : Bool) → marked ws n ≡ b → c < length (slots_below ws (suc n)) → (c < length (slots_below ws n)) ⊎ ((c ≡ length (slots_below ws n)) × (b ≡ true))
  at_step n c true e h =
      go (dec_le (length (slots_below ws n)) c)
    where
      go : Dec (length (slots_below ws n) ≤ c) → (c < length (slots_below ws n)) ⊎ ((c ≡ length (slots_below ws n)) × (true ≡ true))
      go (yes p) = inr (omega (arith, ap length (slots_next ws n e), length-append (slots_below ws n) (n ∷ [])), refl)
      go (no p) = inl (lt_of_not-le p)
  at_step n c false e h = inl (subst (λ (l : List ℕ). c < length l) (slots_pass ws n e) h)

  wider : (n c s : ℕ) → SlotAt ws n c s → SlotAt ws (suc n) c s
  wider n c s a = record { below = omega (arith, a.below); has_mark = a.has_mark; ranked = a.ranked }

  pub slot_at : (n c d : ℕ) → c < length (slots_below ws n) → SlotAt ws n c (get_or (slots_below ws n) c d)
  slot_at zero c d h = absurd (omega (arith, ap length (slots_none ws)))
  slot_at (suc n) c d h = go (at_step n c (marked ws n) refl h) (λ l. slot_at n c d l)
    where
      go : (c < length (slots_below ws n)) ⊎ ((c ≡ length (slots_below ws n)) × (marked ws n ≡ true)) → (c < length (slots_below ws n) → SlotAt ws n c (get_or (slots_below ws n) c d))
          → SlotAt ws (suc n) c (get_or (slots_below ws (suc n)) c d)
      go (inl l) r =
          let e : 1 + n ≡ suc n = omega arith in
          subst (SlotAt ws (suc n) c) (sym (slots_prefix ws n 1 c d l) ∙ ap (λ (m : ℕ). get_or (slots_below ws m) c d) e) (wider n c _ (r l))
      go (inr p) r =
          let e : c ≡ length (slots_below ws n) + 0 = omega (arith, p.0) in
          let s : n ≡ get_or (slots_below ws (suc n)) c d = sym (ap₂ (λ (l : List ℕ) (i : ℕ). get_or l i d) (slots_next ws n p.1) e ∙ get_or-append-add (slots_below ws n) (n ∷ []) 0 d) in
          subst (SlotAt ws (suc n) c) s (record { below = omega arith; has_mark = p.1; ranked = sym p.0 })

  -- a marked slot stands at its rank
  pub rank_below : (n s : ℕ) → s < n → marked ws s ≡ true → length (slots_below ws s) < length (slots_below ws n)
  rank_below n s h e =
      let k : n - suc s + suc s ≡ n = omega arith in
      omega (
        arith,
        ap length (slots_next ws s e),
        length-append (slots_below ws s) (s ∷ []),
        slots_longer ws (suc s) (n - suc s),
        ap (λ (m : ℕ). length (slots_below ws m)) k,
      )

  pub at_rank : (n s d : ℕ) → s < n → marked ws s ≡ true → get_or (slots_below ws n) (length (slots_below ws s)) d ≡ s
  at_rank n s d h e =
      let k : n - suc s + suc s ≡ n = omega arith in
      let r : ℕ = length (slots_below ws s) in
      let f : r ≡ r + 0 = omega arith in
      ap (λ (m : ℕ). get_or (slots_below ws m) r d) (sym k)
      ∙ slots_prefix ws (suc s) (n - suc s) r d (omega (arith, ap length (slots_next ws s e), length-append (slots_below ws s) (s ∷ [])))
      ∙ ap₂ (λ (l : List ℕ) (i : ℕ). get_or l i d) (slots_next ws s e) f ∙ get_or-append-add (slots_below ws s) (s ∷ []) 0 d

-- ---- the first marked slot
pub first_is : (ws : List ℕ) (f : ℕ) → f < 128 → marked ws f ≡ true → ((s : ℕ) → s < f → marked ws s ≡ false) → first_slot ws ≡ f
first_is ws f h e n =
    let z : length (slots_below ws f) ≡ 0 = ap length (slots_skip ws 0 f zero-le (λ s u v. n s v) ∙ slots_none ws) in
    ap (λ (i : ℕ). get_or (slots ws) i 128) (sym z) ∙ at_rank ws 128 f 128 h e

pub first_none : (ws : List ℕ) → ((s : ℕ) → s < 128 → marked ws s ≡ false) → first_slot ws ≡ 128
first_none ws n = ap (λ (l : List ℕ). get_or l 0 128) (slots_skip ws 0 128 zero-le (λ s u v. n s v) ∙ slots_none ws)

-- what the first marked slot is, in either case
pub first_most : (ws : List ℕ) → first_slot ws ≤ 128
first_most ws = go (dec_le (length (slots ws)) 0)
  where
    go : Dec (length (slots ws) ≤ 0) → first_slot ws ≤ 128
    go (yes p) = omega (arith, get_or-eq_default (slots ws) 128 {n = 0} p)
    go (no p) = omega (arith, (slot_at ws 128 0 128 (lt_of_not-le p)).below)

pub below_first : (ws : List ℕ) (s : ℕ) → s < first_slot ws → marked ws s ≡ false
below_first ws s h = go (marked ws s) refl
  where
    go : (b : Bool) → marked ws s ≡ b → marked ws s ≡ false
    go false e = e
    go true e =
        let l : s < 128 = omega (arith, first_most ws) in
        let f : first_slot ws ≡ get_or (slots ws) 0 128 = refl in
        absurd (by (dec_le (length (slots_below ws s)) 0))
      where
        by : Dec (length (slots_below ws s) ≤ 0) → ⊥
        by (yes p) =
            let z : length (slots_below ws s) ≡ 0 = omega arith in
            omega (arith, at_rank ws 128 s 128 (omega (arith, first_most ws)) e, ap (λ (i : ℕ). get_or (slots ws) i 128) z)
        by (no p) =
            let a = slot_at ws s 0 128 (lt_of_not-le p) in
            let k : 128 - s + s ≡ 128 = omega (arith, first_most ws) in
            omega (arith, a.below, slots_prefix ws s (128 - s) 0 128 (lt_of_not-le p), ap (λ (m : ℕ). get_or (slots_below ws m) 0 128) k)

-- ---- the marks without the first are the slots without the first
module _ (ws rs : List ℕ) (same : (s : ℕ) → s < 128 → marked rs s ≡ (marked ws s && not (eqb s (first_slot ws)))) where
  rest_unmarked : (s : ℕ) → s < 128 → marked ws s ≡ false → marked rs s ≡ false
  rest_unmarked s h e = same s h ∙ ap (λ (b : Bool). b && not (eqb s (first_slot ws))) e

  rest_first : (s : ℕ) → s < 128 → s ≡ first_slot ws → marked rs s ≡ false
  rest_first s h e = same s h ∙ ap (λ (b : Bool). marked ws s && not b) (eq-eqb s (first_slot ws) e) ∙ and-false (marked ws s)

  rest_other : (s : ℕ) → s < 128 → (s ≡ first_slot ws → ⊥) → marked rs s ≡ marked ws s
  rest_other s h n = same s h ∙ ap (λ (b : Bool). marked ws s && not b) (ne_eqb s (first_slot ws) n) ∙ and-true (marked ws s)

  -- up to the first slot there is none, in either
  rest_before : (n : ℕ) → n ≤ 128 → n ≤ first_slot ws → slots_below ws n ≡ []
  rest_before n h k = slots_skip ws 0 n zero-le (λ s u v. below_first ws s (omega arith)) ∙ slots_none ws

  rest_upto : (n : ℕ) → n ≤ 128 → n ≤ suc (first_slot ws) → slots_below rs n ≡ []
  rest_upto n h k = slots_skip rs 0 n zero-le (λ s u v. by s v (dec_le (first_slot ws) s)) ∙ slots_none rs
    where
      by : (s : ℕ) → s < n → Dec (first_slot ws ≤ s) → marked rs s ≡ false
      by s v (yes p) = rest_first s (omega arith) (omega arith)
      by s v (no p) = rest_unmarked s (omega arith) (below_first ws s (lt_of_not-le p))

  -- past it they go on alike
  rest_after : marked ws (first_slot ws) ≡ true → (k : ℕ) → k + suc (first_slot ws) ≤ 128 → slots_below rs (k + suc (first_slot ws)) ≡ drop 1 (slots_below ws (k + suc (first_slot ws)))
  rest_after e zero h =
      let f : ℕ = first_slot ws in
      let z : 0 + suc f ≡ suc f = omega arith in
      ap (slots_below rs) z ∙ rest_upto (suc f) (omega arith) (omega arith)
      ∙ sym (ap (λ (m : ℕ). drop 1 (slots_below ws m)) z
      ∙ ap (drop 1) (slots_next ws f e ∙ ap (λ (l : List ℕ). l ++ (f ∷ [])) (rest_before f (omega arith) (omega arith))))
  rest_after e (suc k) h =
      let f : ℕ = first_slot ws in
      let n : ℕ = k + suc f in
      let s : suc k + suc f ≡ suc n = omega arith in
      let one-there : 1 ≤ length (slots_below ws n) = omega (arith, ap length (slots_next ws f e), length-append (slots_below ws f) (f ∷ []), slots_longer ws (suc f) k) in
      ap (slots_below rs) s ∙ slots_step rs n
      ∙ ap₂ (λ (l : List ℕ) (b : Bool). l ++ just b n) (rest_after e k (omega arith)) (rest_other n (omega arith) (λ q. omega arith))
      ∙ sym (ap (λ (m : ℕ). drop 1 (slots_below ws m)) s ∙ ap (drop 1) (slots_step ws n) ∙ drop-append-le 1 (slots_below ws n) (just (marked ws n) n) one-there)

  pub rest_slots : slots rs ≡ drop 1 (slots ws)
  rest_slots = go (dec_le (length (slots ws)) 0)
    where
      go : Dec (length (slots ws) ≤ 0) → slots rs ≡ drop 1 (slots ws)
      go (yes p) =
          let f : first_slot ws ≡ 128 = get_or-eq_default (slots ws) 128 {n = 0} p in
          rest_upto 128 (omega arith) (omega arith) ∙ sym (ap (drop 1) (rest_before 128 (omega arith) (omega arith)) ∙ drop-nil 1)
      go (no p) =
          let a = slot_at ws 128 0 128 (lt_of_not-le p) in
          let k : 128 - suc (first_slot ws) + suc (first_slot ws) ≡ 128 = omega (arith, a.below) in
          subst (λ (m : ℕ). slots_below rs m ≡ drop 1 (slots_below ws m)) k (rest_after a.has_mark (128 - suc (first_slot ws)) (omega arith))

-- ---- the count: one slot more adds its digit
just-length : (x s : ℕ) → x < 2 → length (just (eqb x 1) s) ≡ x
just-length zero s h = refl
just-length (suc zero) s h = refl
just-length (suc (suc x)) s h = absurd (omega arith)

slots_more : (ws : List ℕ) (n x i : ℕ) → marked ws n ≡ bit x i → length (slots_below ws (suc n)) ≡ length (slots_below ws n) + digit x i
slots_more ws n x i e =
    ap length (slots_step ws n) ∙ length-append (slots_below ws n) (just (marked ws n) n)
    ∙ ap (λ (b : Bool). length (slots_below ws n) + length (just b n)) e
    ∙ ap (λ (m : ℕ). length (slots_below ws n) + m) (just-length (digit x i) n (digit_lt x i))

-- n slots from `from` on, whose marks are the digits of x
count_word : (ws : List ℕ) (x from : ℕ) → ((i : ℕ) → i < 64 → marked ws (i + from) ≡ bit x i) → (n : ℕ) → n ≤ 64 → length (slots_below ws (n + from)) ≡ length (slots_below ws from) + ones (x % 2 ^ n)
unfolding ones
count_word ws x from f zero h =
    let e : 0 + from ≡ from = omega arith in
    ap (λ (m : ℕ). length (slots_below ws m)) e ∙ sym (ap (λ (m : ℕ). length (slots_below ws from) + ones m) (mod-one x) ∙ add-zero (length (slots_below ws from)))
count_word ws x from f (suc n) h =
    ap (λ (m : ℕ). length (slots_below ws m)) (suc-add n from)
    ∙ slots_more ws (n + from) x n (f n h)
    ∙ ap (λ (m : ℕ). m + digit x n) (count_word ws x from f n (omega arith))
    ∙ add_assoc (length (slots_below ws from)) (ones (x % 2 ^ n)) (digit x n)
    ∙ ap (λ (m : ℕ). length (slots_below ws from) + m) (add_comm (ones (x % 2 ^ n)) (digit x n) ∙ sym (ones_more x n))

pub counted : (ws : List ℕ) → get_or ws 0 0 < 2 ^ 64 → get_or ws 1 0 < 2 ^ 64 → ones (get_or ws 0 0) + ones (get_or ws 1 0) ≡ count_of ws
counted ws h k =
    let x : ℕ = get_or ws 0 0 in
    let y : ℕ = get_or ws 1 0 in
    let lo : length (slots_below ws 64) ≡ ones x =
    count_word ws x 0 (λ i l. let e : i + 0 ≡ i = omega arith in ap (marked ws) e ∙ mark_low ws i l) 64 (omega arith)
    ∙ ap₂ (λ (p q : ℕ). p + ones q) (ap length (slots_none ws)) (mod-eq_of_lt h) ∙ zero-add (ones x) in
    let hi : length (slots_below ws 128) ≡ length (slots_below ws 64) + ones y =
    count_word ws y 64 (λ i l. let e : i + 64 - 64 ≡ i = omega arith in mark_high ws (i + 64) (omega arith) (omega arith) ∙ ap (bit y) e) 64 (omega arith)
    ∙ ap (λ (q : ℕ). length (slots_below ws 64) + ones q) (mod-eq_of_lt k) in
    sym (hi ∙ ap (λ (m : ℕ). m + ones y) lo)
