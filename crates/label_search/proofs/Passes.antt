-- The two passes over a class: what each keeps true from bucket to bucket. A label that
-- an earlier one equals has its key, so its cells are set when it comes. Assumes nothing.
use mathlib.Core.Path.{◌≡◌, refl, sym, ap, ap₂, ◌∙◌}
use mathlib.Core.Bool.{Bool, true, false, true≢false, ◌&&◌}
use mathlib.Core.List.{List}
use Prim.Native.Nat.{ℕ, ◌+◌, ◌≤◌, ◌<◌}
use native.Mathlib.Decide.{ℕ_discrete}
use native.Mathlib.Omega.{arith}
use lib.Dec.{eqb}
use lib.ListN.{length, get_or}
use borrow.Author.Tests.{eq-eqb}
use Rattle.ht_file.proofs.Laws.{both_hold}
use Rattle.meta_map.specs.Tags.{is_full}
use Rattle.label_search.specs.Labels.{doubled}
use Rattle.label_search.specs.InnerFilter.{key_of, key_at, class_of, with_key, has_key, of_class, bucket_of_class, Keeps, Noted, Suspected, Marking, Sought, Seeking, FirstOfClass}
use Rattle.label_search.proofs.Labels.{doubled_told}
use Rattle.label_search.proofs.Filters.{key_long, key_stays, key_added}

pub keeps_self : (f : List ℕ) → length f ≡ 16384 → Keeps f f
keeps_self f l = (l, λ key e. e)

pub keeps_more : (f : List ℕ) (key : ℕ) → length f ≡ 16384 → Keeps f (with_key f key)
keeps_more f key l = (key_long f key l, key_stays f key l)

-- true and false at once
clash : {A : Type 0} {t : Bool} → t ≡ true → t ≡ false → A
clash p q = absurd (true≢false (sym p ∙ q))

module _ (classes class tag key : ℕ) where
  -- ---- a bucket of the first pass
  module _ (seen suspects : List ℕ) (seen_long : length seen ≡ 16384) (suspects_long : length suspects ≡ 16384) where
    pub noted_suspect : has_key seen key ≡ true → Noted classes class tag key seen suspects seen (with_key suspects key) true
    noted_suspect e =
        record {
          seen_keeps = keeps_self seen seen_long;
          suspects_keeps = keeps_more suspects key suspects_long;
          is_seen = λ o. e;
          suspected = λ o h. (key_added suspects key suspects_long, refl);
        }

    pub noted_new : has_key seen key ≡ false → Noted classes class tag key seen suspects (with_key seen key) suspects false
    noted_new e =
        record {
          seen_keeps = keeps_more seen key seen_long;
          suspects_keeps = keeps_self suspects suspects_long;
          is_seen = λ o. key_added seen key seen_long;
          suspected = λ o h. clash h e;
        }

  -- ---- a bucket of the second
  module _ (suspects seen : List ℕ) (seen_long : length seen ≡ 16384) where
    pub sought_new : has_key seen key ≡ false → Sought classes class tag key suspects seen (with_key seen key) false
    sought_new e =
        record { seen_keeps = keeps_more seen key seen_long; is_seen = λ o s. key_added seen key seen_long; passed = λ q o s. e }

-- ---- the passes
module _ (img : List ℕ) (n classes class : ℕ) where
  full_of_class : (b : ℕ) → is_full (get_or img b 0) ≡ true → class_of (key_at img n b) classes ≡ class → bucket_of_class img n classes class b ≡ true
  full_of_class b f e = ap₂ ◌&&◌ f (eq-eqb (class_of (key_at img n b) classes) class e)

  -- the key that was read for bucket b, where it is full, is its label's
  module _ (b key : ℕ) (read : is_full (get_or img b 0) ≡ true → key ≡ key_at img n b) where
    -- so what is known of the key where the bucket is of the class, is known of the label's
    of_class_lem : bucket_of_class img n classes class b ≡ true → (of_class classes class (get_or img b 0) key ≡ true) × (key ≡ key_at img n b)
    of_class_lem o =
        let k = read (both_hold (is_full (get_or img b 0)) (eqb (class_of (key_at img n b) classes) class) o).0 in
        (ap (of_class classes class (get_or img b 0)) k ∙ o, k)

    pub mark_turn : (seen suspects seen' suspects' : List ℕ) (any any' r : Bool) → Marking img n classes class b seen suspects any
        → Noted classes class (get_or img b 0) key seen suspects seen' suspects' r → (any ≡ true → any' ≡ true) → (r ≡ true → any' ≡ true) → Marking img n classes class (b + 1) seen' suspects' any'
    mark_turn seen suspects seen' suspects' any any' r m t p q =
        record {
          seen_long = t.seen_keeps.0;
          suspects_long = t.suspects_keeps.0;
          in_seen = λ j h o. sees j h o (ℕ_discrete j b);
          in_suspects = λ j h e d. suspects_it j h e d (ℕ_discrete j b);
        }
      where
        sees_it : bucket_of_class img n classes class b ≡ true → has_key seen' (key_at img n b) ≡ true
        sees_it o = let c = of_class_lem o in ap (has_key seen') (sym c.1) ∙ t.is_seen c.0

        sees : (j : ℕ) → j < b + 1 → bucket_of_class img n classes class j ≡ true → Dec (j ≡ b) → has_key seen' (key_at img n j) ≡ true
        sees j h o (yes e) = ap (λ (i : ℕ). has_key seen' (key_at img n i)) e ∙ sees_it (ap (bucket_of_class img n classes class) (sym e) ∙ o)
        sees j h o (no e) = t.seen_keeps.1 (key_at img n j) (m.in_seen j (omega arith) o)

        -- the bucket itself: an equal label before it has set its cells
        at_it : class_of (key_at img n b) classes ≡ class → doubled img n b ≡ true → (has_key suspects' (key_at img n b) ≡ true) × (any' ≡ true)
        at_it e d =
            let told = doubled_told img n b d in
            let i = told.1 in
            let same : key_at img n i.bucket ≡ key_at img n b = ap key_of i.same in
            let before = m.in_seen i.bucket i.before (full_of_class i.bucket i.full (ap (λ (k : ℕ). class_of k classes) same ∙ e)) in
            let c = of_class_lem (full_of_class b told.0 e) in
            let s = t.suspected c.0 (ap (has_key seen) (c.1 ∙ sym same) ∙ before) in
            (ap (has_key suspects') (sym c.1) ∙ s.0, q s.1)

        suspects_it : (j : ℕ) → j < b + 1 → class_of (key_at img n j) classes ≡ class → doubled img n j ≡ true → Dec (j ≡ b) → (has_key suspects' (key_at img n j) ≡ true) × (any' ≡ true)
        suspects_it j h e d (yes z) =
            let s = at_it (ap (λ (i : ℕ). class_of (key_at img n i) classes) (sym z) ∙ e) (ap (doubled img n) (sym z) ∙ d) in
            (ap (λ (i : ℕ). has_key suspects' (key_at img n i)) z ∙ s.0, s.1)
        suspects_it j h e d (no z) =
            let s = m.in_suspects j (omega arith) e d in
            (t.suspects_keeps.1 (key_at img n j) s.0, p s.1)

    pub seek_turn : (end : ℕ) (suspects seen seen' : List ℕ) (r : Bool) → Suspected img n end classes class suspects true → b < end → Seeking img n classes class suspects b seen
        → Sought classes class (get_or img b 0) key suspects seen seen' r → (r ≡ true → doubled img n b ≡ false) → Seeking img n classes class suspects (b + 1) seen'
    seek_turn end suspects seen seen' r all l m t searched =
        record {
          long = t.seen_keeps.0;
          in_seen = λ j h o s. sees j h o s (ℕ_discrete j b);
          none = λ j h e. not_twice j h e (ℕ_discrete j b);
        }
      where
        sees_it : bucket_of_class img n classes class b ≡ true → has_key suspects (key_at img n b) ≡ true → has_key seen' (key_at img n b) ≡ true
        sees_it o s = let c = of_class_lem o in ap (has_key seen') (sym c.1) ∙ t.is_seen c.0 (ap (has_key suspects) c.1 ∙ s)

        sees : (j : ℕ) → j < b + 1 → bucket_of_class img n classes class j ≡ true → has_key suspects (key_at img n j) ≡ true → Dec (j ≡ b) → has_key seen' (key_at img n j) ≡ true
        sees j h o s (yes e) =
            ap (λ (i : ℕ). has_key seen' (key_at img n i)) e ∙ sees_it (ap (bucket_of_class img n classes class) (sym e) ∙ o) (ap (λ (i : ℕ). has_key suspects (key_at img n i)) (sym e) ∙ s)
        sees j h o s (no e) = t.seen_keeps.1 (key_at img n j) (m.in_seen j (omega arith) o s)

        -- a doubled bucket of the class is searched for
        at_it : class_of (key_at img n b) classes ≡ class → (x : Bool) → doubled img n b ≡ x → (y : Bool) → r ≡ y → doubled img n b ≡ false
        at_it e false d y q = d
        at_it e true d true q = searched q
        at_it e true d false q =
            let told = doubled_told img n b d in
            let i = told.1 in
            let same : key_at img n i.bucket ≡ key_at img n b = ap key_of i.same in
            let s = (all b l e d).0 in
            let before = m.in_seen i.bucket i.before (full_of_class i.bucket i.full (ap (λ (k : ℕ). class_of k classes) same ∙ e)) (ap (has_key suspects) same ∙ s) in
            let c = of_class_lem (full_of_class b told.0 e) in
            clash (ap (has_key seen) (c.1 ∙ sym same) ∙ before) (t.passed q c.0 (ap (has_key suspects) c.1 ∙ s))

        not_twice : (j : ℕ) → j < b + 1 → class_of (key_at img n j) classes ≡ class → Dec (j ≡ b) → doubled img n j ≡ false
        not_twice j h e (yes z) = ap (doubled img n) z ∙ at_it (ap (λ (i : ℕ). class_of (key_at img n i) classes) (sym z) ∙ e) (doubled img n b) refl r refl
        not_twice j h e (no z) = m.none j (omega arith) e

-- ---- one class after the other
module _ (img : List ℕ) (n classes : ℕ) where
  -- at the head of the loop over the classes
  pub record Classing (class first : ℕ) : Type 0 where
    pub few : class ≤ classes
    pub within : first ≤ n
    pub none : (b : ℕ) → b < first → class_of (key_at img n b) classes < class → doubled img n b ≡ false
    pub there : first < n → doubled img n first ≡ true

  pub class_turn : (class first r : ℕ) → class < classes → Classing class first → FirstOfClass img n first classes class r → Classing (class + 1) r
  class_turn class first r l m t =
      record {
        few = omega arith;
        within = omega (arith, t.within, m.within);
        none = λ b h e. go b h e (ℕ_discrete (class_of (key_at img n b) classes) class);
        there = λ h. found (ℕ_discrete r first) h;
      }
    where
      go : (b : ℕ) → b < r → class_of (key_at img n b) classes < class + 1 → Dec (class_of (key_at img n b) classes ≡ class) → doubled img n b ≡ false
      go b h e (yes q) = t.none b h q
      go b h e (no q) = m.none b (omega (arith, t.within)) (omega (arith, q))

      found : Dec (r ≡ first) → r < n → doubled img n r ≡ true
      found (yes q) h = ap (doubled img n) q ∙ m.there (omega (arith, q))
      found (no q) h = t.there (omega (arith, t.within, q))
