-- What a user relies on: the bucket that allocation gives, the bucket that lookup finds, and that a page stored in the first is found by the
-- second. Assumes nothing.
use mathlib.Core.Path.{◌≡◌, refl, sym, ap, ◌∙◌, subst}
use mathlib.Core.Bool.{Bool, true, false, true≢false, cond, ◌||◌}
use mathlib.Core.List.{List}
use Prim.Native.Nat.{ℕ, ◌*◌, ◌≤◌, ◌<◌}
use native.Mathlib.Decide.{dec_lt}
use native.Mathlib.Omega.{arith}
use lib.ListN.{length, get_or, set, length-set}
use lib.Seq.{get_or-set_same, get_or-set_other}
use borrow.Author.Tests.{eqb-true, eq-eqb}
use Rattle.answers.specs.Answers.{Answer, given, refused}
use Rattle.blocks.specs.Blocks.{same_bytes}
use Rattle.ht_file.specs.Places.{image_fits}
use Rattle.ht_file.proofs.Laws.{both_hold, image_fits_facts}
use Rattle.meta_map.specs.Tags.{full_tag}
use Rattle.meta_map.proofs.Laws.{kind_empty, full_tag_not_empty}
use Rattle.probe.specs.Path.{Limit, visit, visits, path_from, hits, is_empty, is_tombstone, is_free, is_hit, Stop, stop_at, nowhere, first_stop, page_end, holds, Sought, found_at, absent, unreached, stops_lookup, lookup_saw, looking_up, lookup_answer, allows, allocate_answer, tags_after, allocated_tags}
use Rattle.blocks.proofs.Same.{same_equal, equal_same}
use Rattle.probe.proofs.Tests.{empty_is}
use Rattle.probe.proofs.Visits.{visit_below}
use Rattle.probe.proofs.Walk.{Passed, Stopped, stop_told, never_told}
use Rattle.probe.proofs.Allocating.{given_told, answer_told, answer_below}

-- bucket b is given at visit k: it is on the path, below n and was free, as no visit before; its tag is now the hash's and every other as before
pub record AllocatedAt (limit : Limit) (ts : List ℕ) (n h b k : ℕ) : Type 0 where
  pub within : k < 2 * n
  pub on_path : b ≡ visit n h k
  pub below : b < n
  pub was_free : is_free (get_or ts b 0) ≡ true
  pub none_before : (j : ℕ) → j < k → is_free (get_or ts (visit n h j) 0) ≡ false
  pub few_hits : allows limit (hits ts h (visits n h 0 k)) ≡ true
  pub tagged : get_or (allocated_tags limit ts n h) b 0 ≡ full_tag h
  pub others : (i : ℕ) → (i ≡ b → ⊥) → get_or (allocated_tags limit ts n h) i 0 ≡ get_or ts i 0
  pub as_long : length (allocated_tags limit ts n h) ≡ length ts

pub allocated_bucket : (limit : Limit) (ts : List ℕ) (n h b : ℕ) → allocate_answer limit ts n h ≡ given b → (k : ℕ) × AllocatedAt limit ts n h b k
allocated_bucket limit ts n h b e =
    let g = given_told limit ts n h b (answer_told limit ts n h b e).1 in
    let s = g.1.stop in
    let l = answer_below limit ts n h b e in
    let after : allocated_tags limit ts n h ≡ set ts b (full_tag h) = ap (λ (x : Answer ℕ). tags_after x ts h) e in (
      g.0,
      record {
        within = omega (arith, s.within);
        on_path = s.here;
        below = l.0;
        was_free = s.test;
        none_before = λ j q. s.first j (omega arith) q;
        few_hits = g.1.few;
        tagged = ap (λ (x : List ℕ). get_or x b 0) after ∙ get_or-set_same ts b (full_tag h) 0 (omega arith);
        others = λ i q. ap (λ (x : List ℕ). get_or x i 0) after ∙ get_or-set_other ts b i (full_tag h) 0 q;
        as_long = ap length after ∙ length-set ts b (full_tag h);
      },
    )

-- a refusal leaves every tag
pub refused_leaves : (limit : Limit) (ts : List ℕ) (n h m : ℕ) → allocate_answer limit ts n h ≡ refused m → allocated_tags limit ts n h ≡ ts
refused_leaves limit ts n h m e = ap (λ (x : Answer ℕ). tags_after x ts h) e

-- bucket b has the hash's tag, and its page ends in the id
abbrev pub HasPage : List ℕ → ℕ → ℕ → List ℕ → ℕ → Type 0
HasPage img n h id b = (get_or img b 0 ≡ full_tag h) × (page_end img n b ≡ id)

holds_page : (img : List ℕ) (n h : ℕ) (id : List ℕ) (b : ℕ) → holds img n h id b ≡ true → HasPage img n h id b
holds_page img n h id b e =
    let q = both_hold (is_hit h (get_or img b 0)) (same_bytes (page_end img n b) id) e in
    (eqb-true (get_or img b 0) (full_tag h) q.0, same_equal (page_end img n b) id q.1)

pub page_holds : (img : List ℕ) (n h : ℕ) (id : List ℕ) (b : ℕ) → HasPage img n h id b → holds img n h id b ≡ true
page_holds img n h id b q = rw (eq-eqb (get_or img b 0) (full_tag h) q.0) (equal_same (page_end img n b) id q.1)

module _ (img : List ℕ) (n h : ℕ) (id : List ℕ) where
  -- a visit that does not stop a lookup has not the page and is not empty
  passes_page : (b : ℕ) → stops_lookup img n h id b ≡ false → HasPage img n h id b → ⊥
  passes_page b e q = true≢false (sym (stops_page b q) ∙ e)
    where
      or_right : (x : Bool) → (x || true) ≡ true
      or_right true = refl
      or_right false = refl

      stops_page : (c : ℕ) → HasPage img n h id c → stops_lookup img n h id c ≡ true
      stops_page c p = ap (λ (x : Bool). is_empty (get_or img c 0) || x) (page_holds img n h id c p) ∙ or_right (is_empty (get_or img c 0))

  passes_empty : (b : ℕ) → stops_lookup img n h id b ≡ false → get_or img b 0 ≡ 0x00 → ⊥
  passes_empty b e q = true≢false (sym (ap (λ (x : Bool). x || holds img n h id b) (empty_is (get_or img b 0) q)) ∙ e)

  -- how a walk came to its answer
  data Walked : Sought → Type 0 where
    at_page : {b : ℕ} (k : ℕ) → Stopped (stops_lookup img n h id) n h 0 (2 * n) b k → HasPage img n h id b → Walked (found_at b)
    at_empty : (b k : ℕ) → Stopped (stops_lookup img n h id) n h 0 (2 * n) b k → get_or img b 0 ≡ 0x00 → Walked absent
    at_end : Passed (stops_lookup img n h id) n h 0 (2 * n) → Walked unreached

  walked : Walked (looking_up img n h id)
  unfolding looking_up
  walked = go (first_stop (stops_lookup img n h id) 0 (path_from n h 0)) refl
    where
      told : (b k : ℕ) → Stopped (stops_lookup img n h id) n h 0 (2 * n) b k → (t : Bool) → is_empty (get_or img b 0) ≡ t → Walked (cond t absent (found_at b))
      told b k s true e = at_empty b k s (eqb-true (get_or img b 0) 0x00 (sym (kind_empty (get_or img b 0)) ∙ e))
      told b k s false e = at_page k s (holds_page img n h id b (sym (ap (λ (x : Bool). x || holds img n h id b) e) ∙ s.test))

      go : (s : Stop) → first_stop (stops_lookup img n h id) 0 (path_from n h 0) ≡ s → Walked (lookup_saw img s)
      go (stop_at b k) e = told b k (stop_told (stops_lookup img n h id) n h 0 (2 * n) b k e) (is_empty (get_or img b 0)) refl
      go nowhere e = at_end (λ j l q. never_told (stops_lookup img n h id) n h 0 (2 * n) e j l (omega arith))

  -- an answer is that of the walk, on an image that fits
  looked : (a : Sought) → lookup_answer img n h id ≡ given a → (1 ≤ n) × Walked a
  looked a e = go (image_fits n (length img)) refl e
    where
      go : (t : Bool) → image_fits n (length img) ≡ t → cond t (given (looking_up img n h id)) (refused 1) ≡ given a → (1 ≤ n) × Walked a
      go true f q = let same : looking_up img n h id ≡ a = cc in ((image_fits_facts n (length img) f).0, subst Walked same walked)
      go false f q = let z : ◌≡◌ {A = ℕ} 0 1 = cc in absurd (omega arith)

-- bucket b is found at visit k: it has the page, and no visit before has it or is empty
pub record FoundAt (img : List ℕ) (n h : ℕ) (id : List ℕ) (b k : ℕ) : Type 0 where
  pub within : k < 2 * n
  pub on_path : b ≡ visit n h k
  pub below : b < n
  pub page : HasPage img n h id b
  pub none_before : (j : ℕ) → j < k → HasPage img n h id (visit n h j) → ⊥
  pub none_empty : (j : ℕ) → j < k → get_or img (visit n h j) 0 ≡ 0x00 → ⊥

module _ (img : List ℕ) (n h : ℕ) (id : List ℕ) where
  -- "the bucket of the first hit whose page ends in the id, if no empty visit precedes it"
  pub found_right : (b : ℕ) → lookup_answer img n h id ≡ given (found_at b) → (k : ℕ) × FoundAt img n h id b k
  found_right b e = go (looked img n h id (found_at b) e).0 (looked img n h id (found_at b) e).1
    where
      go : 1 ≤ n → Walked img n h id (found_at b) → (k : ℕ) × FoundAt img n h id b k
      go l (at_page k s q) = (
        k,
        record {
          within = omega (arith, s.within);
          on_path = s.here;
          below = omega (arith, s.here, visit_below n h k l);
          page = q;
          none_before = λ j x. passes_page img n h id (visit n h j) (s.first j (omega arith) x);
          none_empty = λ j x. passes_empty img n h id (visit n h j) (s.first j (omega arith) x);
        },
      )

  -- "absent at an empty visit"; none before it has the page
  pub absent_right : lookup_answer img n h id ≡ given absent
      → (k : ℕ) × (k < 2 * n) × (get_or img (visit n h k) 0 ≡ 0x00) × ((j : ℕ) → j < k → HasPage img n h id (visit n h j) → ⊥)
  absent_right e = go (looked img n h id absent e).1
    where
      go : Walked img n h id absent → (k : ℕ) × (k < 2 * n) × (get_or img (visit n h k) 0 ≡ 0x00) × ((j : ℕ) → j < k → HasPage img n h id (visit n h j) → ⊥)
      go (at_empty b k s q) =
          (k, omega (arith, s.within), ap (λ (x : ℕ). get_or img x 0) (sym s.here) ∙ q, λ j x. passes_page img n h id (visit n h j) (s.first j (omega arith) x))

  -- "closed if 2n visits give neither"
  pub closed_right : lookup_answer img n h id ≡ given unreached
      → (j : ℕ) → j < 2 * n → (HasPage img n h id (visit n h j) → ⊥) × (get_or img (visit n h j) 0 ≡ 0x00 → ⊥)
  closed_right e j l = go (looked img n h id unreached e).1
    where
      go : Walked img n h id unreached → (HasPage img n h id (visit n h j) → ⊥) × (get_or img (visit n h j) 0 ≡ 0x00 → ⊥)
      go (at_end p) = let q = p j (omega arith) l in (passes_page img n h id (visit n h j) q, passes_empty img n h id (visit n h j) q)

  -- a page at visit k, with no empty visit before it, is found there or at an earlier visit that has it too
  pub found_by : (k : ℕ) → image_fits n (length img) ≡ true → k < 2 * n → HasPage img n h id (visit n h k) → ((j : ℕ) → j < k → get_or img (visit n h j) 0 ≡ 0x00 → ⊥)
      → (j : ℕ) × (j ≤ k) × HasPage img n h id (visit n h j) × (lookup_answer img n h id ≡ given (found_at (visit n h j)))
  found_by k fits l page full = go (looking_up img n h id) refl (walked img n h id)
    where
      Result : Type 0
      Result = (j : ℕ) × (j ≤ k) × HasPage img n h id (visit n h j) × (lookup_answer img n h id ≡ given (found_at (visit n h j)))

      no_empty : (j : ℕ) → j ≤ k → get_or img (visit n h j) 0 ≡ 0x00 → Dec (j < k) → ⊥
      no_empty j q z (yes d) = full j d z
      no_empty j q z (no d) =
          let same : j ≡ k = omega arith in
          full_tag_not_empty h (sym page.0 ∙ ap (λ (x : ℕ). get_or img (visit n h x) 0) (sym same) ∙ z)

      by_then : (b j : ℕ) → Stopped (stops_lookup img n h id) n h 0 (2 * n) b j → Dec (k < j) → j ≤ k
      by_then b j s (yes d) = absurd (passes_page img n h id (visit n h k) (s.first k (omega arith) d) page)
      by_then b j s (no d) = omega arith

      go : (a : Sought) → looking_up img n h id ≡ a → Walked img n h id a → Result
      go (found_at b) e (at_page j s q) =
          (j, by_then b j s (dec_lt k j), subst (HasPage img n h id) s.here q, rw (fits, e) (ap (λ (x : ℕ). given (found_at x)) s.here))
      go absent e (at_empty b j s q) = absurd (no_empty j (by_then b j s (dec_lt k j)) (ap (λ (x : ℕ). get_or img x 0) (sym s.here) ∙ q) (dec_lt j k))
      go unreached e (at_end p) = absurd (passes_page img n h id (visit n h k) (p k (omega arith) l) page)

-- After an allocation at visit k, once a page that ends in the id stands in the bucket that was given and the tags are written, a lookup
-- finds that bucket, or one at an earlier visit whose page ends in the same id.
module _ (limit : Limit) (ts : List ℕ) (n h b k : ℕ) (a : AllocatedAt limit ts n h b k) (img id : List ℕ) (fits : image_fits n (length img) ≡ true)
    (written : (i : ℕ) → i < n → get_or img i 0 ≡ get_or (allocated_tags limit ts n h) i 0) (stored : page_end img n b ≡ id) where
  pub stored_page : (j : ℕ) × (j ≤ k) × HasPage img n h id (visit n h j) × (lookup_answer img n h id ≡ given (found_at (visit n h j)))
  stored_page = found_by img n h id k fits a.within (subst (HasPage img n h id) a.on_path (written b a.below ∙ a.tagged, stored)) full
    where
      full : (j : ℕ) → j < k → get_or img (visit n h j) 0 ≡ 0x00 → ⊥
      full j l z = true≢false (sym (ap (λ (x : Bool). x || is_tombstone (get_or ts (visit n h j) 0)) (empty_is (get_or ts (visit n h j) 0) was)) ∙ a.none_before j l)
        where
          apart : visit n h j ≡ b → ⊥
          apart q = true≢false (sym a.was_free ∙ ap (λ (x : ℕ). is_free (get_or ts x 0)) (sym q) ∙ a.none_before j l)

          was : get_or ts (visit n h j) 0 ≡ 0x00
          was = sym (a.others (visit n h j) apart) ∙ sym (written (visit n h j) (visit_below n h j (omega (arith, a.below)))) ∙ z

  -- it is the bucket itself, where every bucket visited before that has such a page is that bucket
  pub found_at_visit : ((j : ℕ) → j < k → HasPage img n h id (visit n h j) → visit n h j ≡ b) → lookup_answer img n h id ≡ given (found_at b)
  found_at_visit only = go stored_page
    where
      go : (j : ℕ) × (j ≤ k) × HasPage img n h id (visit n h j) × (lookup_answer img n h id ≡ given (found_at (visit n h j))) → lookup_answer img n h id ≡ given (found_at b)
      go f = last (dec_lt f.0 k)
        where
          last : Dec (f.0 < k) → lookup_answer img n h id ≡ given (found_at b)
          last (yes d) = f.3 ∙ ap (λ (x : ℕ). given (found_at x)) (only f.0 d f.2)
          last (no d) = let same : f.0 ≡ k = omega (arith, f.1) in f.3 ∙ ap (λ (x : ℕ). given (found_at (visit n h x))) same ∙ ap (λ (x : ℕ). given (found_at x)) (sym a.on_path)

-- The same of the two calls' answers alone: allocation gave the bucket, no other bucket of the table has the hash's tag and a page that
-- ends in the id; then lookup answers that bucket.
pub found_after_allocation : (limit : Limit) (ts : List ℕ) (n h b : ℕ) → allocate_answer limit ts n h ≡ given b → (img id : List ℕ) → image_fits n (length img) ≡ true
    → ((i : ℕ) → i < n → get_or img i 0 ≡ get_or (allocated_tags limit ts n h) i 0) → page_end img n b ≡ id
    → ((c : ℕ) → c < n → HasPage img n h id c → c ≡ b) → lookup_answer img n h id ≡ given (found_at b)
found_after_allocation limit ts n h b gave img id fits written stored only =
    let a = allocated_bucket limit ts n h b gave in
    found_at_visit limit ts n h b a.0 a.1 img id fits written stored (λ j l. only (visit n h j) (visit_below n h j (omega (arith, a.1.below))))
