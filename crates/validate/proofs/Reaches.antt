-- The path to a bucket: what n visits show of all of them, and what it means that a bucket is reached. Assumes nothing.
use mathlib.Core.Path.{◌≡◌, refl, sym, ap, ap₂, ◌∙◌}
use mathlib.Core.Bool.{Bool, true, false, true≢false, cond, ◌||◌}
use mathlib.Core.List.{List}
use Prim.Native.Nat.{ℕ, ◌+◌, ◌-◌, ◌*◌, ◌%◌, ◌≤◌, ◌<◌}
use native.Mathlib.Nat.{mod-eq_of_lt, mod-eq-sub-mod, mod-lt, mod-le}
use native.Mathlib.Decide.{dec_lt}
use native.Mathlib.Omega.{arith}
use lib.Dec.{leb, eqb}
use lib.ListN.{get_or}
use borrow.Author.Tests.{eq-eqb, ne_eqb, eqb-true, leb-false}
use Rattle.answers.specs.Answers.{given, refused}
use Rattle.probe.specs.Path.{visit, visits, Stop, stop_at, nowhere, first_stop, is_empty}
use Rattle.probe.proofs.Tests.{empty_is, empty_not}
use Rattle.probe.proofs.Visits.{visit_below, visit_next, path_turns, path_mirror}
use Rattle.probe.proofs.Walk.{Passed, Stopped, stop_here, stop_never, stop_told}
use Rattle.validate.specs.Audit.{audit_visits, stops_reach, reach_saw, reaching}

-- at least two rounds are made
pub two_rounds : (n : ℕ) → 2 * n ≤ audit_visits n
two_rounds n = go (leb 100000 (2 * n)) refl
  where
    go : (t : Bool) → leb 100000 (2 * n) ≡ t → 2 * n ≤ cond t (2 * n) 100000
    go true e = omega arith
    go false e = omega (arith, leb-false 100000 (2 * n) e)

-- what n visits pass, all visits pass
pub passed_all : (p : ℕ → Bool) (n h m : ℕ) → 0 < n → Passed p n h 0 n → Passed p n h 0 m
passed_all p n h m l a j x y = ap p (sym (path_turns n h j)) ∙ go (j % (2 * n)) (mod-lt j {m = 2 * n} (omega arith))
  where
    go : (i : ℕ) → i < 2 * n → p (visit n h i) ≡ false
    go i q = half (dec_lt i n)
      where
        half : Dec (i < n) → p (visit n h i) ≡ false
        half (yes d) = a i (omega arith) d
        half (no d) = ap p (sym (path_mirror n h i q)) ∙ a (2 * n - 1 - i) (omega arith) (omega arith)

-- the walk: one visit on, by a sum and at most one subtraction
pub on_below : (n h k b : ℕ) → b ≡ visit n h k → b + (k + 1) < n → b + (k + 1) ≡ visit n h (k + 1)
on_below n h k b e l = sym (mod-eq_of_lt l) ∙ ap (λ (x : ℕ). (x + (k + 1)) % n) e ∙ visit_next n h k

pub on_round : (n h k b : ℕ) → 0 < n → b ≡ visit n h k → k < n → n ≤ b + (k + 1) → b + (k + 1) - n ≡ visit n h (k + 1)
on_round n h k b s e q l =
    let low : b < n = omega (arith, visit_below n h k s) in
    let less : b + (k + 1) - n < n = omega arith in
    sym (mod-eq_of_lt less) ∙ sym (mod-eq-sub-mod l) ∙ ap (λ (x : ℕ). (x + (k + 1)) % n) e ∙ visit_next n h k

module _ (img : List ℕ) (n h b : ℕ) (some : 0 < n) where
  -- the test of a visit, from what the code compared
  pub passes : (c : ℕ) → (c ≡ b → ⊥) → (get_or img c 0 ≡ 0x00 → ⊥) → stops_reach img b c ≡ false
  passes c e f = ap₂ ◌||◌ (ne_eqb c b e) (empty_not (get_or img c 0) f)

  stops : (k : ℕ) → k < n → Passed (stops_reach img b) n h 0 k → stops_reach img b (visit n h k) ≡ true → first_stop (stops_reach img b) 0 (visits n h 0 (audit_visits n)) ≡ stop_at (visit n h k) k
  stops k l a e = stop_here (stops_reach img b) n h 0 (audit_visits n) k (omega arith) (omega (arith, two_rounds n)) a e

  pub reached_at : (k : ℕ) → k < n → Passed (stops_reach img b) n h 0 k → visit n h k ≡ b → reaching img n h b ≡ given tt
  unfolding reaching
  reached_at k l a e =
      let t : eqb (visit n h k) b ≡ true = eq-eqb (visit n h k) b e in
      ap (reach_saw b) (stops k l a (ap (λ (x : Bool). x || is_empty (get_or img (visit n h k) 0)) t)) ∙ ap (λ (x : Bool). cond x (given tt) (refused 23)) t

  pub empty_at_lem : (k : ℕ) → k < n → Passed (stops_reach img b) n h 0 k → (visit n h k ≡ b → ⊥) → get_or img (visit n h k) 0 ≡ 0x00 → reaching img n h b ≡ refused 23
  unfolding reaching
  empty_at_lem k l a f e =
      let t : eqb (visit n h k) b ≡ false = ne_eqb (visit n h k) b f in
      ap (reach_saw b) (stops k l a (ap₂ ◌||◌ t (empty_is (get_or img (visit n h k) 0) e))) ∙ ap (λ (x : Bool). cond x (given tt) (refused 23)) t

  pub never_at : Passed (stops_reach img b) n h 0 n → reaching img n h b ≡ refused 24
  unfolding reaching
  never_at a = ap (reach_saw b) (stop_never (stops_reach img b) n h 0 (audit_visits n) (λ j x y. passed_all (stops_reach img b) n h (0 + audit_visits n) some a j x y))

  -- a bucket that is reached is visited within 2n visits, and none before is empty
  pub reached_told : reaching img n h b ≡ given tt → (k : ℕ) × (k < 2 * n) × (visit n h k ≡ b) × ((j : ℕ) → j < k → get_or img (visit n h j) 0 ≡ 0x00 → ⊥)
  unfolding reaching
  reached_told e = go (first_stop (stops_reach img b) 0 (visits n h 0 (audit_visits n))) refl e
    where
      Result : Type 0
      Result = (k : ℕ) × (k < 2 * n) × (visit n h k ≡ b) × ((j : ℕ) → j < k → get_or img (visit n h j) 0 ≡ 0x00 → ⊥)

      or_true : (a : Bool) → (a || true) ≡ true
      or_true true = refl
      or_true false = refl

      at_stop : (c k : ℕ) → Stopped (stops_reach img b) n h 0 (audit_visits n) c k → (t : Bool) → eqb c b ≡ t → cond t (given (tt {0})) (refused 23) ≡ given (tt {0}) → Result
      at_stop c k s true q r =
          let m : k % (2 * n) ≤ k = mod-le k (2 * n) in (
            k % (2 * n),
            mod-lt k {m = 2 * n} (omega arith),
            path_turns n h k ∙ sym s.here ∙ eqb-true c b q,
            λ j l z. true≢false (sym (ap (λ (x : Bool). eqb (visit n h j) b || x) (empty_is (get_or img (visit n h j) 0) z) ∙ or_true (eqb (visit n h j) b)) ∙ s.first j (omega arith) (omega arith)),
          )
      at_stop c k s false q r = let z : ◌≡◌ {A = ℕ} 0 1 = cc in absurd (omega arith)

      go : (s : Stop) → first_stop (stops_reach img b) 0 (visits n h 0 (audit_visits n)) ≡ s → reach_saw b s ≡ given tt → Result
      go (stop_at c k) s q = at_stop c k (stop_told (stops_reach img b) n h 0 (audit_visits n) c k s) (eqb c b) refl q
      go nowhere s q = let z : ◌≡◌ {A = ℕ} 0 1 = cc in absurd (omega arith)
