-- What a change is to do, test by test. Assumes nothing.
use mathlib.Core.Path.{◌≡◌, refl, sym, ap, ap₂, ◌∙◌, subst}
use mathlib.Core.Bool.{Bool, true, false, cond, ◌||◌}
use mathlib.Core.List.{List}
use Prim.Native.Nat.{ℕ, ◌<◌}
use native.Mathlib.Omega.{arith}
use lib.Dec.{ltb}
use lib.ListN.{get_or}
use borrow.Author.Tests.{ltb-true}
use Rattle.answers.specs.Answers.{Answer, given, refused}
use Rattle.answers.proofs.Laws.{given_one, given_refused}
use Rattle.page_diff.specs.Diff.{marked, reserved}
use Rattle.sync_parts.specs.Parts.{Named, bucket, none, named_by, tag_fits}
use Rattle.sync.specs.Change.{where_of, place_of, Does, clears, updates, allocates, does_with, by_named, does_of}
use Rattle.sync.specs.declared.Change.{Change}
use Rattle.sync_parts.specs.declared.Where.{Where}
use Rattle.sync_parts.specs.declared.Where.TheVariants as place

-- the two numbers of a place say where it is
pub where_place : (w : Where) → where_of (place_of w) ≡ w
where_place (place.Known b) = refl
where_place place.Fresh = refl
where_place (place.Cell i) = refl

-- the plan by its tests
module _ (n : ℕ) (tags cells : List ℕ) (c : Change) where
  abbrev ws : List ℕ
  ws = c.diff.words

  pub plan_spare : marked c.diff.words 126 ≡ true → does_of n tags cells c ≡ refused 4
  unfolding does_of
  plan_spare e = ap (λ (b : Bool). cond b (refused 4) (by_named (marked ws 127) n tags c.hash (named_by (where_of c.place) cells))) e

  pub plan_by : (clearing : Bool) (a : Answer Named) → marked c.diff.words 126 ≡ false → clearing ≡ marked c.diff.words 127 → a ≡ named_by (where_of c.place) cells → does_of n tags cells c ≡ by_named clearing n tags c.hash a
  unfolding does_of
  plan_by clearing a e f g =
      ap (λ (b : Bool). cond b (refused 4) (by_named (marked ws 127) n tags c.hash (named_by (where_of c.place) cells))) e
      ∙ sym (ap₂ (λ (b : Bool) (x : Answer Named). by_named b n tags c.hash x) f g)

-- ---- what an accepted plan rests on
-- a named bucket is inside the table and has the hash's tag; only a clearing change clears
pub data Told (n : ℕ) (tags : List ℕ) (h : ℕ) (clearing : Bool) : Does → Type 0 where
  as_clear : {b : ℕ} → b < n → clearing ≡ true → tag_fits h (get_or tags b 0) ≡ true → Told n tags h clearing (clears b)
  as_update : {b : ℕ} → b < n → clearing ≡ false → tag_fits h (get_or tags b 0) ≡ true → Told n tags h clearing (updates b)
  as_new : clearing ≡ false → Told n tags h clearing allocates

named_told : (n : ℕ) (tags : List ℕ) (h : ℕ) (cl : Bool) (a : Answer Named) (d : Does) → by_named cl n tags h a ≡ given d → Told n tags h cl d
named_told n tags h cl (refused k) d e = absurd (given_refused d k (sym e))
named_told n tags h true (given none) d e = absurd (given_refused d 14 (sym e))
named_told n tags h false (given none) d e = subst (Told n tags h false) (given_one allocates d e) (as_new refl)
named_told n tags h cl (given (bucket x)) d e = go (ltb x n) refl (tag_fits h (get_or tags x 0)) refl e
  where
    kind : (v : Bool) → cl ≡ v → x < n → tag_fits h (get_or tags x 0) ≡ true → Told n tags h cl (does_with v x)
    kind true s l q = as_clear l s q
    kind false s l q = as_update l s q

    go : (t : Bool) → ltb x n ≡ t → (u : Bool) → tag_fits h (get_or tags x 0) ≡ u → cond t (cond u (given (does_with cl x)) (refused 14)) (refused 9) ≡ given d → Told n tags h cl d
    go true p true q r = subst (Told n tags h cl) (given_one (does_with cl x) d r) (kind cl refl (ltb-true x n p) q)
    go true p false q r = absurd (given_refused d 14 (sym r))
    go false p u q r = absurd (given_refused d 9 (sym r))

module _ (n : ℕ) (tags cells : List ℕ) (c : Change) where
  -- an accepted plan has no bit 126
  pub past_spare : (d : Does) → does_of n tags cells c ≡ given d → (marked c.diff.words 126 ≡ false) × (by_named (marked c.diff.words 127) n tags c.hash (named_by (where_of c.place) cells) ≡ given d)
  unfolding does_of
  past_spare d e = go (marked c.diff.words 126) refl e
    where
      go : (x : Bool) → marked c.diff.words 126 ≡ x
          → cond (marked c.diff.words 126) (refused 4) (by_named (marked c.diff.words 127) n tags c.hash (named_by (where_of c.place) cells)) ≡ given d
          → (marked c.diff.words 126 ≡ false) × (by_named (marked c.diff.words 127) n tags c.hash (named_by (where_of c.place) cells) ≡ given d)
      go true p r =
          let z : refused 4 ≡ given d = sym (ap (λ (b : Bool). cond b (refused 4) (by_named (marked c.diff.words 127) n tags c.hash (named_by (where_of c.place) cells))) p) ∙ r in
          let y : ◌≡◌ {A = ℕ} 0 1 = cc in absurd (omega arith)
      go false p r = (p, sym (ap (λ (b : Bool). cond b (refused 4) (by_named (marked c.diff.words 127) n tags c.hash (named_by (where_of c.place) cells))) p) ∙ r)

  pub does_told : (d : Does) → does_of n tags cells c ≡ given d → Told n tags c.hash (marked c.diff.words 127) d
  does_told d e = named_told n tags c.hash (marked c.diff.words 127) (named_by (where_of c.place) cells) d (past_spare d e).1

  pub does_clears : (b : ℕ) → does_of n tags cells c ≡ given (clears b) → b < n
  does_clears b e = go (does_told (clears b) e)
    where
      go : Told n tags c.hash (marked c.diff.words 127) (clears b) → b < n
      go (as_clear l s q) = l

  pub does_updates : (b : ℕ) → does_of n tags cells c ≡ given (updates b) → (b < n) × (reserved c.diff.words ≡ false)
  does_updates b e = go (does_told (updates b) e)
    where
      go : Told n tags c.hash (marked c.diff.words 127) (updates b) → (b < n) × (reserved c.diff.words ≡ false)
      go (as_update l s q) = (l, ap₂ ◌||◌ (past_spare (updates b) e).0 s)

  pub does_allocates : does_of n tags cells c ≡ given allocates → reserved c.diff.words ≡ false
  does_allocates e = go (does_told allocates e)
    where
      go : Told n tags c.hash (marked c.diff.words 127) allocates → reserved c.diff.words ≡ false
      go (as_new s) = ap₂ ◌||◌ (past_spare allocates e).0 s
