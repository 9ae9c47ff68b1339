-- The first stop of a walk: found by passing visits one after the other, and what is known of it. Assumes nothing.
use mathlib.Core.Path.{◌≡◌, refl, sym, ap, ap₂, ◌∙◌, subst}
use mathlib.Core.Bool.{Bool, true, false, cond}
use mathlib.Core.List.{List}
use Prim.Native.Nat.{ℕ, zero, suc, ◌+◌, ◌*◌, ◌%◌, ◌≤◌, ◌<◌}
use native.Mathlib.Nat.{mod-lt, mod-add-mod, add-mod-mod}
use native.Mathlib.Decide.{ℕ_discrete}
use native.Mathlib.Omega.{arith}
use lib.ListN.{length}
use Rattle.ht_file.specs.Places.{tags_fit}
use Rattle.ht_file.proofs.Laws.{tags_fit_facts}
use Rattle.probe.specs.declared.ProbeSequence.{ProbeSequence}
use Rattle.probe.specs.InnerWalk.{stands, Stepped}
use Rattle.probe.specs.Path.{visit, visits, stop_at, nowhere, first_stop, path_from}
use Rattle.probe.proofs.Visits.{visit_below, visit_next}

-- a table that fits has a tag for each bucket
pub tags_room : (ts : List ℕ) (n : ℕ) → tags_fit n (length ts) ≡ true → (1 ≤ n) × (n ≤ 1048576) × (n ≤ length ts)
tags_room ts n e = let f = tags_fit_facts n (length ts) e in (f.0, f.1, omega arith)

-- a walk's bucket and step are below n
pub stands_below : (n h k : ℕ) (p : ProbeSequence) → 0 < n → stands n h k p → (p.bucket < n) × (p.step < n)
stands_below n h k p l s = (omega (arith, s.1, visit_below n h k l), omega (arith, s.2, mod-lt (k + 1) {m = n} l))

-- the step leads to the next visit
pub stands_next : (n h k : ℕ) (p q : ProbeSequence) → stands n h k p → Stepped p q → stands n h (k + 1) q
stands_next n h k p q s e = (
  e.0 ∙ s.0,
  e.1 ∙ ap (λ (m : ℕ). (p.bucket + p.step) % m) s.0 ∙ ap₂ (λ (b d : ℕ). (b + d) % n) s.1 s.2 ∙ add-mod-mod (visit n h k) (k + 1) n ∙ visit_next n h k,
  e.2 ∙ ap (λ (m : ℕ). (p.step + 1) % m) s.0 ∙ ap (λ (d : ℕ). (d + 1) % n) s.2 ∙ mod-add-mod (k + 1) n 1,
)

-- no visit from s on and before k passes the test
abbrev pub Passed : (ℕ → Bool) → ℕ → ℕ → ℕ → ℕ → Type 0
Passed p n h s k = (j : ℕ) → s ≤ j → j < k → p (visit n h j) ≡ false

-- what is known of a stop among the m visits from s on
pub record Stopped (p : ℕ → Bool) (n h s m b k : ℕ) : Type 0 where
  pub from : s ≤ k
  pub within : k < s + m
  pub here : b ≡ visit n h k
  pub test : p b ≡ true
  pub first : Passed p n h s k

module _ (p : ℕ → Bool) (n h : ℕ) where
  pub passed_none : (s : ℕ) → Passed p n h s s
  passed_none s j l m = absurd (omega arith)

  pub passed_more : (s k : ℕ) → Passed p n h s k → p (visit n h k) ≡ false → Passed p n h s (k + 1)
  passed_more s k h₁ e j l m = go (ℕ_discrete j k)
    where
      go : Dec (j ≡ k) → p (visit n h j) ≡ false
      go (yes q) = ap (λ (i : ℕ). p (visit n h i)) q ∙ e
      go (no q) = h₁ j l (omega arith)

  -- the test passes at visit k, and at none before
  pub stop_here : (s m k : ℕ) → s ≤ k → k < s + m → Passed p n h s k → p (visit n h k) ≡ true → first_stop p s (visits n h s m) ≡ stop_at (visit n h k) k
  unfolding first_stop visits
  stop_here s zero k l q a e = absurd (omega arith)
  stop_here s (suc m) k l q a e = go (ℕ_discrete s k) (λ (d : suc s ≤ k). stop_here (suc s) m k d (omega arith) (λ j x y. a j (omega arith) y) e)
    where
      go : Dec (s ≡ k) → (suc s ≤ k → first_stop p (suc s) (visits n h (suc s) m) ≡ stop_at (visit n h k) k)
          → cond (p (visit n h s)) (stop_at (visit n h s) s) (first_stop p (suc s) (visits n h (suc s) m)) ≡ stop_at (visit n h k) k
      go (yes d) rec = ap (λ (t : Bool). cond t (stop_at (visit n h s) s) (first_stop p (suc s) (visits n h (suc s) m))) (ap (λ (i : ℕ). p (visit n h i)) d ∙ e) ∙ ap (λ (i : ℕ). stop_at (visit n h i) i) d
      go (no d) rec =
          let less : s < k = omega arith in
          ap (λ (t : Bool). cond t (stop_at (visit n h s) s) (first_stop p (suc s) (visits n h (suc s) m))) (a s (omega arith) less) ∙ rec less

  -- the test passes at none of the visits
  pub stop_never : (s m : ℕ) → Passed p n h s (s + m) → first_stop p s (visits n h s m) ≡ nowhere
  unfolding first_stop visits
  stop_never s zero a = refl
  stop_never s (suc m) a =
      ap (λ (t : Bool). cond t (stop_at (visit n h s) s) (first_stop p (suc s) (visits n h (suc s) m))) (a s (omega arith) (omega arith))
      ∙ stop_never (suc s) m (λ j x y. a j (omega arith) (omega arith))

  -- where a walk stopped nowhere, the test passes at none of the visits
  pub never_told : (s m : ℕ) → first_stop p s (visits n h s m) ≡ nowhere → Passed p n h s (s + m)
  unfolding first_stop visits
  never_told s zero e j l q = absurd (omega arith)
  never_told s (suc m) e j l q = go (p (visit n h s)) refl e (never_told (suc s) m) (ℕ_discrete s j)
    where
      go : (t : Bool) → p (visit n h s) ≡ t → cond t (stop_at (visit n h s) s) (first_stop p (suc s) (visits n h (suc s) m)) ≡ nowhere
          → (first_stop p (suc s) (visits n h (suc s) m) ≡ nowhere → Passed p n h (suc s) (suc s + m)) → Dec (s ≡ j) → p (visit n h j) ≡ false
      go true a d rec i = let z : ◌≡◌ {A = ℕ} 0 1 = cc in absurd (omega arith)
      go false a d rec (yes i) = ap (λ (w : ℕ). p (visit n h w)) (sym i) ∙ a
      go false a d rec (no i) = rec d j (omega arith) (omega arith)

  -- where a walk stopped, the test passes first
  pub stop_told : (s m b k : ℕ) → first_stop p s (visits n h s m) ≡ stop_at b k → Stopped p n h s m b k
  unfolding first_stop visits
  stop_told s zero b k e = let z : ◌≡◌ {A = ℕ} 0 1 = cc in absurd (omega arith)
  stop_told s (suc m) b k e = go (p (visit n h s)) refl e (stop_told (suc s) m b k)
    where
      go : (t : Bool) → p (visit n h s) ≡ t → cond t (stop_at (visit n h s) s) (first_stop p (suc s) (visits n h (suc s) m)) ≡ stop_at b k
          → (first_stop p (suc s) (visits n h (suc s) m) ≡ stop_at b k → Stopped p n h (suc s) m b k) → Stopped p n h s (suc m) b k
      go true q d rec =
          let eb : visit n h s ≡ b = cc in
          let ek : s ≡ k = cc in
          record {
            from = omega arith;
            within = omega arith;
            here = sym eb ∙ ap (visit n h) ek;
            test = subst (λ (x : ℕ). p x ≡ true) eb q;
            first = λ j x y. absurd (omega arith);
          }
      go false q d rec =
          let r = rec d in
          record {
            from = omega arith;
            within = omega arith;
            here = r.here;
            test = r.test;
            first = λ j x y. before (ℕ_discrete s j) x y r.first;
          }
        where
          before : {j : ℕ} → Dec (s ≡ j) → s ≤ j → j < k → Passed p n h (suc s) k → p (visit n h j) ≡ false
          before {j} (yes i) x y f = ap (λ (w : ℕ). p (visit n h w)) (sym i) ∙ q
          before {j} (no i) x y f = f j (omega arith) y

-- the code's walk from visit s on stands at visit k, and no visit before passes the test; each bucket is below len
pub record Walking (test : ℕ → Bool) (len n h s k : ℕ) (p : ProbeSequence) : Type 0 where
  pub some : 0 < n
  pub few : n ≤ 1048576
  pub room : n ≤ len
  pub stand : stands n h k p
  pub passed : Passed test n h s k

module _ (test : ℕ → Bool) (len n h s : ℕ) where
  pub walk_start : (p : ProbeSequence) → 0 < n → n ≤ 1048576 → n ≤ len → stands n h s p → Walking test len n h s s p
  walk_start p a b d e = record { some = a; few = b; room = d; stand = e; passed = passed_none test n h s }

  module _ (k : ℕ) (p : ProbeSequence) (w : Walking test len n h s k p) where
    pub walk_below : (p.bucket < n) × (p.step < n)
    walk_below = stands_below n h k p w.some w.stand

    -- the walk can go on
    pub walk_ready : (p.n ≤ 1048576) × (p.bucket < p.n) × (p.step < p.n)
    walk_ready = (omega (arith, w.few, w.stand.0), omega (arith, walk_below, w.stand.0), omega (arith, walk_below, w.stand.0))

    -- it stops here
    pub walk_stop : s ≤ k → k < s + 2 * n → (b : ℕ) → b ≡ p.bucket → test b ≡ true → first_stop test s (path_from n h s) ≡ stop_at b k
    walk_stop from within b here e =
        let at : b ≡ visit n h k = here ∙ w.stand.1 in
        stop_here test n h s (2 * n) k from within w.passed (ap test (sym at) ∙ e) ∙ ap (λ (c : ℕ). stop_at c k) (sym at)

    -- or makes a step
    pub walk_next : (q : ProbeSequence) (b : ℕ) → b ≡ p.bucket → test b ≡ false → Stepped p q → Walking test len n h s (k + 1) q
    walk_next q b here e d =
        record {
          some = w.some;
          few = w.few;
          room = w.room;
          stand = stands_next n h k p q w.stand d;
          passed = passed_more test n h s k w.passed (ap test (sym (here ∙ w.stand.1)) ∙ e);
        }

    -- or has made all its visits
    pub walk_end : s + 2 * n ≡ k → first_stop test s (path_from n h s) ≡ nowhere
    walk_end e = stop_never test n h s (2 * n) (subst (Passed test n h s) (sym e) w.passed)
