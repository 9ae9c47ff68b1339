-- What a user of growth relies on: no page is lost or doubled, each is found by its hash and id, and a refusal leaves the new image either all
-- zero or as it was. Assumes nothing.
use mathlib.Core.Path.{◌≡◌, refl, sym, ap, ap₂, ◌∙◌, subst}
use mathlib.Core.Bool.{Bool, true, false, cond, ◌&&◌}
use mathlib.Core.List.{List}
use mathlib.Core.Logic.{◌⊎◌, inl, inr, ⊎_elim}
use Prim.Native.Nat.{ℕ, zero, suc, ◌≤◌, ◌<◌}
use native.Mathlib.Omega.{arith}
use native.Mathlib.Numerals.{add-one}
use lib.Dec.{ltb, eqb}
use lib.ListN.{length, get_or, take, drop}
use borrow.Author.Tests.{lt-ltb, le-ltb, ltb-true, ltb-false, eqb-true, eqb-false, eq-eqb}
use Rattle.answers.specs.Answers.{Answer, given, refused}
use Rattle.answers.proofs.Laws.{given_refused, refused_one}
use Rattle.ht_file.specs.Places.{count_allowed, image_length, image_fits, tags_of}
use Rattle.ht_file.proofs.Laws.{both_hold, allowed_bounds}
use Rattle.meta_map.specs.Tags.{full, count_of, is_full}
use Rattle.meta_map.proofs.Laws.{full_tag_not_empty}
use Rattle.probe.specs.Path.{Limit, visit, allocating, page_end, found_at, lookup_answer}
use Rattle.probe.proofs.Visits.{visit_below}
use Rattle.probe.proofs.Allocating.{refused_numbers}
use Rattle.probe.proofs.Promises.{HasPage, found_by}
use Rattle.rehash.specs.Growth.{page_at, stored, zeroed, grown_to, copied, Growth, done, nothing_to_do, lengths_fit, end_of, growth_answer, image_or, growth_image}
use Rattle.rehash.proofs.Moves.{grown_none, grown_next, grown_stop}
use Rattle.rehash.proofs.Stores.{page_ends}
use Rattle.rehash.proofs.Carry.{Moved, Untouched, Carried, carried}

-- ---- a refusal of the copy is 10 or 11
copy_refused : (limit : Limit) (old : List ℕ) (old_n new_n : ℕ) (hashes : List ℕ) (k m : ℕ) → grown_to limit old old_n new_n hashes k ≡ refused m → (m ≡ 10) ⊎ (m ≡ 11)
copy_refused limit old old_n new_n hashes zero m e = absurd (given_refused (zeroed new_n) m (sym (grown_none limit old old_n new_n hashes) ∙ e))
copy_refused limit old old_n new_n hashes (suc k) m e = go (grown_to limit old old_n new_n hashes k) refl (copy_refused limit old old_n new_n hashes k)
  where
    step : (img : List ℕ) (t : Bool) (a : Answer ℕ) → allocating limit (tags_of new_n img) new_n (get_or hashes k 0) ≡ a
        → cond t (stored img new_n (get_or hashes k 0) (page_at old old_n k) a) (given img) ≡ refused m → (m ≡ 10) ⊎ (m ≡ 11)
    step img true (given c) p q = let z : ◌≡◌ {A = ℕ} 0 1 = cc in absurd (omega arith)
    step img true (refused j) p q =
        let z : j ≡ m = refused_one {A = List ℕ} j m q in
        refused_numbers limit (tags_of new_n img) new_n (get_or hashes k 0) m (p ∙ ap refused z)
    step img false a p q = absurd (given_refused img m q)

    go : (x : Answer (List ℕ)) → grown_to limit old old_n new_n hashes k ≡ x → ((j : ℕ) → grown_to limit old old_n new_n hashes k ≡ refused j → (j ≡ 10) ⊎ (j ≡ 11)) → (m ≡ 10) ⊎ (m ≡ 11)
    go (given img) p rec =
        step img (is_full (get_or old k 0)) (allocating limit (tags_of new_n img) new_n (get_or hashes k 0)) refl
        (sym (grown_next limit old old_n new_n hashes k img p) ∙ ap (grown_to limit old old_n new_n hashes) (add-one k) ∙ e)
    go (refused j) p rec =
        let q : refused j ≡ refused m = sym (grown_stop limit old old_n new_n hashes k j 1 p) ∙ ap (grown_to limit old old_n new_n hashes) (add-one k) ∙ e in
        rec m (p ∙ ap refused (refused_one {A = List ℕ} j m q))

larger_than : {a b : ℕ} → a ≤ b → (b ≡ a → ⊥) → a < b
larger_than l f = omega (arith, l, f)

not_done : given nothing_to_do ≡ given done → ⊥
not_done e = let z : ◌≡◌ {A = ℕ} 0 1 = cc in omega arith

-- ---- how an answer came about
module _ (limit : Limit) (old : List ℕ) (old_n : ℕ) (new : List ℕ) (new_n : ℕ) (hashes : List ℕ) where
  -- the copy was made
  pub record Made : Type 0 where
    pub old_allowed : count_allowed old_n ≡ true
    pub new_allowed : count_allowed new_n ≡ true
    pub larger : old_n < new_n
    pub old_long : length old ≡ image_length old_n
    pub new_long : length new ≡ image_length new_n
    pub a_hash_each : length hashes ≡ old_n
    pub image : growth_image limit old old_n new new_n hashes ≡ image_or (zeroed new_n) (copied limit old old_n new_n hashes)

  data Went : Answer Growth → Type 0 where
    not_made : {a : Answer Growth} → (a ≡ given done → ⊥) → (a ≡ refused 10 → ⊥) → (a ≡ refused 11 → ⊥) → growth_image limit old old_n new new_n hashes ≡ new → Went a
    made : Made → Went (end_of done (copied limit old old_n new_n hashes))

  lengths : lengths_fit old old_n new new_n hashes ≡ true → (length old ≡ image_length old_n) × (length new ≡ image_length new_n) × (length hashes ≡ old_n)
  lengths e =
      let p = both_hold (eqb (length old) (image_length old_n) && eqb (length new) (image_length new_n)) (eqb (length hashes) old_n) e in
      let q = both_hold (eqb (length old) (image_length old_n)) (eqb (length new) (image_length new_n)) p.0 in
      (eqb-true (length old) (image_length old_n) q.0, eqb-true (length new) (image_length new_n) q.1, eqb-true (length hashes) old_n p.1)

  -- an answer before the copy leaves the new image
  refused_before : (m : ℕ) → (m ≡ 10 → ⊥) → (m ≡ 11 → ⊥) → growth_image limit old old_n new new_n hashes ≡ new → Went (refused m)
  refused_before m f g e =
      not_made (λ q. given_refused done m (sym q)) (λ q. f (refused_one {A = Growth} m 10 q)) (λ q. g (refused_one {A = Growth} m 11 q)) e

  went : Went (growth_answer limit old old_n new new_n hashes)
  went = go (count_allowed old_n) refl (count_allowed new_n) refl (ltb new_n old_n) refl (eqb new_n old_n) refl (lengths_fit old old_n new new_n hashes) refl
    where
      go : (a : Bool) → count_allowed old_n ≡ a → (b : Bool) → count_allowed new_n ≡ b → (s : Bool) → ltb new_n old_n ≡ s → (e : Bool) → eqb new_n old_n ≡ e → (l : Bool) → lengths_fit old old_n new new_n hashes ≡ l
          → Went (cond (a && b) (cond s (refused 19) (cond e (given nothing_to_do) (cond l (end_of done (copied limit old old_n new_n hashes)) (refused 2)))) (refused 1))
      go false p b q s x e y l z = refused_before 1 (λ d. omega arith) (λ d. omega arith) (rw p)
      go true p false q s x e y l z = refused_before 1 (λ d. omega arith) (λ d. omega arith) (rw (p, q))
      go true p true q true x e y l z =
          refused_before 19 (λ d. omega arith) (λ d. omega arith) (rw (p, q, le-ltb old_n new_n (omega (arith, ltb-true new_n old_n x))))
      go true p true q false x true y l z =
          not_made not_done (λ d. given_refused nothing_to_do 10 d) (λ d. given_refused nothing_to_do 11 d)
          (rw (p, q, le-ltb old_n new_n (omega (arith, eqb-true new_n old_n y))))
      go true p true q false x false y false z =
          let f : new_n ≡ old_n → ⊥ = eqb-false new_n old_n y in
          let m : old_n < new_n = larger_than (ltb-false new_n old_n x) f in
          refused_before 2 (λ d. omega arith) (λ d. omega arith) (rw (p, q, lt-ltb old_n new_n m, z))
      go true p true q false x false y true z =
          let f : new_n ≡ old_n → ⊥ = eqb-false new_n old_n y in
          let m : old_n < new_n = larger_than (ltb-false new_n old_n x) f in
          let g = lengths z in
          made (record {
            old_allowed = p;
            new_allowed = q;
            larger = m;
            old_long = g.0;
            new_long = g.1;
            a_hash_each = g.2;
            image = rw (p, q, lt-ltb old_n new_n m, z);
          })

  -- ---- the promises
  -- a copy that is done was made, and its image is the one that the definition gives
  pub growth_made : growth_answer limit old old_n new new_n hashes ≡ given done
      → Made × (copied limit old old_n new_n hashes ≡ given (growth_image limit old old_n new new_n hashes))
  growth_made e = go (growth_answer limit old old_n new new_n hashes) went e
    where
      image_of : (x : Answer (List ℕ)) → end_of done x ≡ given done → x ≡ given (image_or (zeroed new_n) x)
      image_of (given i) q = refl
      image_of (refused m) q = let z : ◌≡◌ {A = ℕ} 0 1 = cc in absurd (omega arith)

      go : (a : Answer Growth) → Went a → a ≡ given done → Made × (copied limit old old_n new_n hashes ≡ given (growth_image limit old old_n new new_n hashes))
      go a (not_made f g h i) q = absurd (f q)
      go a (made m) q = (m, image_of (copied limit old old_n new_n hashes) q ∙ ap given (sym m.image))

  -- each full old bucket's page stands in a bucket of its own, and every other byte of the new image is zero
  pub growth_carries : growth_answer limit old old_n new new_n hashes ≡ given done → Carried old old_n new_n hashes old_n (growth_image limit old old_n new new_n hashes)
  growth_carries e =
      let m = growth_made e in
      let b = allowed_bounds new_n m.0.new_allowed in
      let fits : image_fits new_n (image_length new_n) ≡ true = ap₂ ◌&&◌ m.0.new_allowed (eq-eqb (image_length new_n) (image_length new_n) refl) in
      carried limit old old_n new_n hashes b.0 fits old_n (growth_image limit old old_n new new_n hashes) m.1

  -- the full buckets are as many
  pub growth_as_many : growth_answer limit old old_n new new_n hashes ≡ given done → count_of full (growth_image limit old old_n new new_n hashes) new_n ≡ count_of full old old_n
  growth_as_many e = (growth_carries e).as_many

  -- a lookup with an old page's hash and id finds it in its new bucket, where no other stored page ends in that id
  pub growth_found : (e : growth_answer limit old old_n new new_n hashes ≡ given done) (b : ℕ) → b < old_n → is_full (get_or old b 0) ≡ true
      → ((d : ℕ) → d < old_n → is_full (get_or old d 0) ≡ true → page_end old old_n d ≡ page_end old old_n b → d ≡ b)
      → lookup_answer (growth_image limit old old_n new new_n hashes) new_n (get_or hashes b 0) (page_end old old_n b) ≡ given (found_at ((growth_carries e).place b))
  growth_found e b l f only = go (found_by img new_n h id m.at fits m.within (subst (HasPage img new_n h id) m.on_path has) m.none_empty)
    where
      img : List ℕ
      img = growth_image limit old old_n new new_n hashes

      h : ℕ
      h = get_or hashes b 0

      id : List ℕ
      id = page_end old old_n b

      w : Carried old old_n new_n hashes old_n (growth_image limit old old_n new new_n hashes)
      w = growth_carries e

      m : Moved old old_n new_n (growth_image limit old old_n new new_n hashes) (get_or hashes b 0) b ((growth_carries e).place b)
      m = (growth_carries e).moved b l f

      fits : image_fits new_n (length img) ≡ true
      fits = ap₂ ◌&&◌ (growth_made e).0.new_allowed (eq-eqb (length img) (image_length new_n) w.long)

      -- the id of a moved page
      ends : (d c : ℕ) → d < old_n → Moved old old_n new_n (growth_image limit old old_n new new_n hashes) (get_or hashes d 0) d c → page_end img new_n c ≡ page_end old old_n d
      ends d c q v =
          page_ends img new_n c (omega (arith, w.long, v.below)) ∙ ap (λ (p : List ℕ). take 32 (drop 4064 p)) v.page ∙ sym (page_ends old old_n d (omega (arith, (growth_made e).0.old_long)))

      has : HasPage img new_n h id ((growth_carries e).place b)
      has = (m.tag, ends b ((growth_carries e).place b) l m)

      -- a bucket that has the page is that one
      same : (c : ℕ) → c < new_n → HasPage img new_n h id c → c ≡ (growth_carries e).place b
      same c q p = one_of (w.others c q)
        where
          one_of : Untouched new_n (growth_image limit old old_n new new_n hashes) c ⊎ ((d : ℕ) × (d < old_n) × (is_full (get_or old d 0) ≡ true) × ((growth_carries e).place d ≡ c)) → c ≡ (growth_carries e).place b
          one_of (inl u) = absurd (full_tag_not_empty h (sym p.0 ∙ u.0))
          one_of (inr s) =
              let v = w.moved s.0 s.1 s.2 in
              let z : s.0 ≡ b = only s.0 s.1 s.2 (sym (ends s.0 ((growth_carries e).place s.0) s.1 v) ∙ ap (page_end img new_n) s.3 ∙ p.1) in
              sym s.3 ∙ ap (growth_carries e).place z

      go : (j : ℕ) × (j ≤ m.at) × HasPage img new_n h id (visit new_n h j) × (lookup_answer img new_n h id ≡ given (found_at (visit new_n h j))) → lookup_answer img new_n h id ≡ given (found_at ((growth_carries e).place b))
      go r = r.3 ∙ ap (λ (c : ℕ). given (found_at c)) (same (visit new_n h r.0) (visit_below new_n h r.0 (omega (arith, m.below))) r.2)

  -- refused with 10 or 11 the new image is all zero
  pub growth_refused_zero : (m : ℕ) → (m ≡ 10) ⊎ (m ≡ 11) → growth_answer limit old old_n new new_n hashes ≡ refused m → growth_image limit old old_n new new_n hashes ≡ zeroed new_n
  growth_refused_zero m t e = go (growth_answer limit old old_n new new_n hashes) went e
    where
      none : (x : Answer (List ℕ)) → end_of done x ≡ refused m → image_or (zeroed new_n) x ≡ zeroed new_n
      none (given i) q = absurd (given_refused done m q)
      none (refused k) q = refl

      go : (a : Answer Growth) → Went a → a ≡ refused m → growth_image limit old old_n new new_n hashes ≡ zeroed new_n
      go a (not_made f g h i) q = absurd (⊎_elim (λ (z : m ≡ 10). g (q ∙ ap refused z)) (λ (z : m ≡ 11). h (q ∙ ap refused z)) t)
      go a (made r) q = r.image ∙ none (copied limit old old_n new_n hashes) q

  -- any other refusal, and nothing to do, leave it as it was
  pub growth_refused_leaves : (m : ℕ) → (m ≡ 10 → ⊥) → (m ≡ 11 → ⊥) → growth_answer limit old old_n new new_n hashes ≡ refused m → growth_image limit old old_n new new_n hashes ≡ new
  growth_refused_leaves m f g e = go (growth_answer limit old old_n new new_n hashes) went e
    where
      none : (x : Answer (List ℕ)) → copied limit old old_n new_n hashes ≡ x → end_of done x ≡ refused m → ⊥
      none (given i) p q = given_refused done m q
      none (refused k) p q =
          ⊎_elim f g (copy_refused limit old old_n new_n hashes old_n m (p ∙ ap refused (refused_one {A = Growth} k m q)))

      go : (a : Answer Growth) → Went a → a ≡ refused m → growth_image limit old old_n new new_n hashes ≡ new
      go a (not_made x y z i) q = i
      go a (made r) q = absurd (none (copied limit old old_n new_n hashes) refl q)

  pub growth_nothing_leaves : growth_answer limit old old_n new new_n hashes ≡ given nothing_to_do → growth_image limit old old_n new new_n hashes ≡ new
  growth_nothing_leaves e = go (growth_answer limit old old_n new new_n hashes) went e
    where
      none : (x : Answer (List ℕ)) → end_of done x ≡ given nothing_to_do → ⊥
      none (given i) q = let f : ◌≡◌ {A = ℕ} 0 1 = cc in omega arith
      none (refused k) q = given_refused nothing_to_do k (sym q)

      go : (a : Answer Growth) → Went a → a ≡ given nothing_to_do → growth_image limit old old_n new new_n hashes ≡ new
      go a (not_made x y z i) q = i
      go a (made r) q = absurd (none (copied limit old old_n new_n hashes) q)
