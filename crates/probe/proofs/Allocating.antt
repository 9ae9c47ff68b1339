-- Allocation by its walk: what it answers where the walk stops, ends or has passed too many hits; and what is known of a bucket that is given.
-- Assumes nothing.
use mathlib.Core.Path.{◌≡◌, refl, sym, ap, ◌∙◌, subst}
use mathlib.Core.Bool.{Bool, true, false, true≢false, cond}
use mathlib.Core.List.{List}
use mathlib.Core.Logic.{◌⊎◌, inl, inr}
use Prim.Native.Nat.{ℕ, ◌+◌, ◌-◌, ◌*◌, ◌≤◌, ◌<◌}
use native.Mathlib.Decide.{dec_lt}
use native.Mathlib.Omega.{arith}
use lib.Dec.{ltb}
use lib.ListN.{length}
use borrow.Author.Tests.{lt-ltb, le-leb, lt-leb, leb-false}
use Rattle.answers.specs.Answers.{Answer, given, refused, and_then}
use Rattle.ht_file.specs.Places.{tags_fit}
use Rattle.ht_file.proofs.Laws.{tags_fit_facts}
use Rattle.std.specs.Prelude.{None, Some}
use Rattle.probe.specs.Path.{Limit, visits, path_from, hits, Stop, stop_at, nowhere, allows, no_bucket_by, free_at, free_stop, no_bucket, allocation_saw, allocating, allocate_answer}
use Rattle.probe.proofs.Visits.{visit_below, hits_mono}
use Rattle.probe.proofs.Walk.{Passed, Stopped, stop_told}

-- the hits before visit k
abbrev pub hits_to : List ℕ → ℕ → ℕ → ℕ → ℕ
hits_to ts n h k = hits ts h (visits n h 0 k)

-- no hit is allowed by every limit
pub allows_none : (limit : Limit) → allows limit 0 ≡ true
allows_none (Some most) = le-leb 0 most (omega arith)
allows_none None = refl

-- more hits are allowed only where fewer are
pub allows_fewer : (limit : Limit) (a b : ℕ) → a ≤ b → allows limit a ≡ false → allows limit b ≡ false
allows_fewer (Some most) a b l e = lt-leb b most (omega (arith, leb-false a most e))
allows_fewer None a b l e = e

-- where a limit is passed there is a hit
pub crowded_number : (limit : Limit) (a b : ℕ) → allows limit a ≡ false → 0 < b → no_bucket_by limit b ≡ 10
crowded_number (Some most) a b e l = rw (lt-ltb 0 b l)
crowded_number None a b e l = absurd (true≢false e)

-- a bucket that is given: the first free visit of the path, with few hits before it
pub record Given (limit : Limit) (ts : List ℕ) (n h b k : ℕ) : Type 0 where
  pub stop : Stopped (free_at ts) n h 0 (2 * n) b k
  pub few : allows limit (hits_to ts n h k) ≡ true

module _ (limit : Limit) (ts : List ℕ) (n h : ℕ) where
  pub given_at : (b k : ℕ) → free_stop ts n h ≡ stop_at b k → allows limit (hits_to ts n h k) ≡ true → allocating limit ts n h ≡ given b
  unfolding allocating
  given_at b k e l = rw (e, l)

  pub none_free : free_stop ts n h ≡ nowhere → allocating limit ts n h ≡ no_bucket limit ts n h
  unfolding allocating
  none_free e = rw e

  no_bucket_lem : (k a : ℕ) → k ≤ 2 * n → 0 < hits_to ts n h k → allows limit a ≡ false → no_bucket_by limit (hits ts h (path_from n h 0)) ≡ 10
  no_bucket_lem k a l m f =
      let e : k + (2 * n - k) ≡ 2 * n = omega arith in
      let all = ap (λ (j : ℕ). hits_to ts n h j) e in
      crowded_number limit a (hits ts h (path_from n h 0)) f (omega (arith, all, hits_mono ts n h 0 k (2 * n - k)))

  -- too many hits are passed, and no free visit: whatever comes
  pub crowded : (k : ℕ) → k ≤ 2 * n → Passed (free_at ts) n h 0 k → 0 < hits_to ts n h k → allows limit (hits_to ts n h k) ≡ false → allocating limit ts n h ≡ refused 10
  unfolding allocating
  crowded k l a some m = go (free_stop ts n h) refl
    where
      ten : no_bucket_by limit (hits ts h (path_from n h 0)) ≡ 10
      ten = no_bucket_lem k (hits_to ts n h k) l some m

      later : (b j : ℕ) → Stopped (free_at ts) n h 0 (2 * n) b j → Dec (j < k) → k ≤ j
      later b j s (yes q) = absurd (true≢false (sym s.test ∙ ap (free_at ts) s.here ∙ a j (omega arith) q))
      later b j s (no q) = omega arith

      more : (b j : ℕ) → Stopped (free_at ts) n h 0 (2 * n) b j → allows limit (hits_to ts n h j) ≡ false
      more b j s =
          let q : k ≤ j = later b j s (dec_lt j k) in
          let e : k + (j - k) ≡ j = omega arith in
          allows_fewer limit (hits_to ts n h k) (hits_to ts n h j) (omega (arith, ap (λ (i : ℕ). hits_to ts n h i) e, hits_mono ts n h 0 k (j - k))) m

      go : (s : Stop) → free_stop ts n h ≡ s → and_then (allocation_saw limit ts n h s) (λ v. given v.0) ≡ refused 10
      go (stop_at b j) e = rw (more b j (stop_told (free_at ts) n h 0 (2 * n) b j e)) (ap refused ten)
      go nowhere e = ap refused ten

  -- a bucket is given only so
  pub given_told : (b : ℕ) → allocating limit ts n h ≡ given b → (k : ℕ) × Given limit ts n h b k
  unfolding allocating
  given_told b e = go (free_stop ts n h) refl e
    where
      none : (m : ℕ) → refused m ≡ given b → ⊥
      none m q = let z : ◌≡◌ {A = ℕ} 0 1 = cc in absurd (omega arith)

      test : (c j : ℕ) → free_stop ts n h ≡ stop_at c j → (t : Bool) → allows limit (hits_to ts n h j) ≡ t
          → and_then {A = ℕ × ℕ} (cond t (given (c, j)) (no_bucket limit ts n h)) (λ v. given v.0) ≡ given b → (k : ℕ) × Given limit ts n h b k
      test c j s true l q =
          let same : c ≡ b = cc in (
            j,
            record {
              stop = subst (λ (x : ℕ). Stopped (free_at ts) n h 0 (2 * n) x j) same (stop_told (free_at ts) n h 0 (2 * n) c j s);
              few = l;
            },
          )
      test c j s false l q = absurd (none (no_bucket_by limit (hits ts h (path_from n h 0))) q)

      go : (s : Stop) → free_stop ts n h ≡ s → and_then (allocation_saw limit ts n h s) (λ v. given v.0) ≡ given b → (k : ℕ) × Given limit ts n h b k
      go (stop_at c j) s q = test c j s (allows limit (hits_to ts n h j)) refl q
      go nowhere s q = absurd (none (no_bucket_by limit (hits ts h (path_from n h 0))) q)

  -- a refusal is for the path
  pub refused_told : (m : ℕ) → allocating limit ts n h ≡ refused m → m ≡ no_bucket_by limit (hits ts h (path_from n h 0))
  unfolding allocating
  refused_told m e = go (free_stop ts n h) e
    where
      number : (k : ℕ) → ◌≡◌ {A = Answer ℕ} (refused k) (refused m) → m ≡ k
      number k q = let z : k ≡ m = cc in sym z

      test : (c j : ℕ) (t : Bool) → and_then {A = ℕ × ℕ} (cond t (given (c, j)) (no_bucket limit ts n h)) (λ v. given v.0) ≡ refused m → m ≡ no_bucket_by limit (hits ts h (path_from n h 0))
      test c j true q = let z : ◌≡◌ {A = ℕ} 0 1 = cc in absurd (omega arith)
      test c j false q = number (no_bucket_by limit (hits ts h (path_from n h 0))) q

      go : (s : Stop) → and_then (allocation_saw limit ts n h s) (λ v. given v.0) ≡ refused m → m ≡ no_bucket_by limit (hits ts h (path_from n h 0))
      go (stop_at c j) q = test c j (allows limit (hits_to ts n h j)) q
      go nowhere q = number (no_bucket_by limit (hits ts h (path_from n h 0))) q

  -- the table fits, too
  pub answer_told : (b : ℕ) → allocate_answer limit ts n h ≡ given b → (tags_fit n (length ts) ≡ true) × (allocating limit ts n h ≡ given b)
  answer_told b e = go (tags_fit n (length ts)) refl e
    where
      go : (t : Bool) → tags_fit n (length ts) ≡ t → cond t (allocating limit ts n h) (refused 1) ≡ given b → (tags_fit n (length ts) ≡ true) × (allocating limit ts n h ≡ given b)
      go true f q = (f, q)
      go false f q = let z : ◌≡◌ {A = ℕ} 0 1 = cc in absurd (omega arith)

  pub answer_below : (b : ℕ) → allocate_answer limit ts n h ≡ given b → (b < n) × (n ≤ length ts)
  answer_below b e =
      let q = answer_told b e in
      let f = tags_fit_facts n (length ts) q.0 in
      let g = given_told b q.1 in
      (omega (arith, g.1.stop.here, visit_below n h g.0 f.0), omega (arith, f))

-- "10 if the path has a hit, 11 if it has none", and nothing else
pub refused_numbers : (limit : Limit) (ts : List ℕ) (n h m : ℕ) → allocating limit ts n h ≡ refused m → (m ≡ 10) ⊎ (m ≡ 11)
refused_numbers limit ts n h m e = either limit (hits ts h (path_from n h 0)) (refused_told limit ts n h m e)
  where
    by_hits : (t : Bool) → m ≡ cond t 10 11 → (m ≡ 10) ⊎ (m ≡ 11)
    by_hits true q = inl q
    by_hits false q = inr q

    either : (l : Limit) (k : ℕ) → m ≡ no_bucket_by l k → (m ≡ 10) ⊎ (m ≡ 11)
    either (Some most) k q = by_hits (ltb 0 k) q
    either None k q = inr q

-- without a limit 10 does not occur
pub unlimited_number : (ts : List ℕ) (n h m : ℕ) → allocating None ts n h ≡ refused m → m ≡ 11
unlimited_number ts n h m e = refused_told None ts n h m e
