-- What is true of the new image after the first k old buckets: each full one has its page in a bucket of its own, under the tag of its hash
-- and where its path leads; every other byte is zero. Assumes nothing.
use mathlib.Core.Path.{◌≡◌, refl, sym, ap, ◌∙◌, subst}
use mathlib.Core.Bool.{Bool, true, false, true≢false, cond}
use mathlib.Core.List.{List}
use mathlib.Core.Logic.{◌⊎◌, inl, inr}
use Prim.Native.Nat.{ℕ, zero, suc, ◌+◌, ◌*◌, ◌≤◌, ◌<◌}
use native.Mathlib.Decide.{ℕ_discrete}
use native.Mathlib.Numerals.{add-one}
use native.Mathlib.Omega.{arith}
use lib.Dec.{eqb}
use lib.ListN.{length, get_or, set, replicate, length-replicate}
use borrow.Author.Tests.{eq-eqb, ne_eqb}
use Rattle.answers.specs.Answers.{Answer, given, refused}
use Rattle.answers.proofs.Laws.{given_one}
use Rattle.blocks.specs.Blocks.{put}
use Rattle.blocks.proofs.Laws.{block-length}
use Rattle.ht_file.specs.Places.{tags_length, image_length, image_fits, page_start, tags_of}
use Rattle.meta_map.specs.Tags.{full, full_tag, one, count_of, is_full}
use Rattle.meta_map.proofs.Laws.{full_tag_not_empty, count-suc}
use Rattle.probe.specs.Path.{Limit, visit, is_free, allocating}
use Rattle.probe.proofs.Visits.{visit_below}
use Rattle.probe.proofs.Promises.{AllocatedAt, allocated_bucket}
use Rattle.rehash.specs.Growth.{page_at, stored, zeroed, grown_to}
use Rattle.rehash.proofs.Moves.{allocation_is, grown_none, grown_next, grown_stop}
use Rattle.rehash.proofs.Stores.{full_not_free, free_not_full, tag_of, store_long, store_tag, store_tag_other, store_page, store_page_other, store_count, zero_at, zero_page, none_full}

-- the page of old bucket b, with the hash h, stands in bucket c of a new image, and no visit of h before it is empty
pub record Moved (old : List ℕ) (old_n new_n : ℕ) (img : List ℕ) (h b c : ℕ) : Type 0 where
  pub below : c < new_n
  pub tag : get_or img c 0 ≡ full_tag h
  pub page : page_at img new_n c ≡ page_at old old_n b
  pub at : ℕ
  pub within : at < 2 * new_n
  pub on_path : c ≡ visit new_n h at
  pub none_empty : (j : ℕ) → j < at → get_or img (visit new_n h j) 0 ≡ 0x00 → ⊥

-- bucket c of a new image is as the zeroed image has it
abbrev pub Untouched : ℕ → List ℕ → ℕ → Type 0
Untouched new_n img c = (get_or img c 0 ≡ 0x00) × (page_at img new_n c ≡ replicate 4096 0)

pub record Carried (old : List ℕ) (old_n new_n : ℕ) (hashes : List ℕ) (k : ℕ) (img : List ℕ) : Type 0 where
  pub long : length img ≡ image_length new_n
  -- where each full old bucket went
  pub place : ℕ → ℕ
  pub moved : (b : ℕ) → b < k → is_full (get_or old b 0) ≡ true → Moved old old_n new_n img (get_or hashes b 0) b (place b)
  pub apart : (b d : ℕ) → b < k → d < k → is_full (get_or old b 0) ≡ true → is_full (get_or old d 0) ≡ true → place b ≡ place d → b ≡ d
  pub others : (c : ℕ) → c < new_n → Untouched new_n img c ⊎ ((b : ℕ) × (b < k) × (is_full (get_or old b 0) ≡ true) × (place b ≡ c))
  pub padding : (i : ℕ) → new_n ≤ i → i < tags_length new_n → get_or img i 0 ≡ 0x00
  pub as_many : count_of full img new_n ≡ count_of full old k

module _ (limit : Limit) (old : List ℕ) (old_n new_n : ℕ) (hashes : List ℕ) (some : 1 ≤ new_n) (fits : image_fits new_n (image_length new_n) ≡ true) where
  carried_none : Carried old old_n new_n hashes 0 (zeroed new_n)
  unfolding count_of
  carried_none =
      record {
        long = length-replicate (image_length new_n) 0;
        place = λ b. b;
        moved = λ b l e. absurd (omega arith);
        apart = λ b d l m e f q. absurd (omega arith);
        others = λ c l. inl (zero_at new_n c (omega arith), zero_page new_n c l);
        padding = λ i l m. zero_at new_n i (omega arith);
        as_many = none_full (zeroed new_n) new_n (λ i l. zero_at new_n i (omega arith));
      }

  module _ (k : ℕ) (img : List ℕ) (w : Carried old old_n new_n hashes k img) where
    -- a bucket that is not full adds nothing
    carried_other : is_full (get_or old k 0) ≡ false → Carried old old_n new_n hashes (k + 1) img
    carried_other e =
        record {
          long = w.long;
          place = w.place;
          moved = λ b l f. w.moved b (earlier b l f) f;
          apart = λ b d l m f g q. w.apart b d (earlier b l f) (earlier d m g) f g q;
          others = λ c l. more (w.others c l);
          padding = w.padding;
          as_many = w.as_many ∙ sym (count-suc full old k ∙ ap (λ (t : Bool). count_of full old k + one t) e ∙ (let z : count_of full old k + 0 ≡ count_of full old k = omega arith in z));
        }
      where
        earlier : (b : ℕ) → b < k + 1 → is_full (get_or old b 0) ≡ true → b < k
        earlier b l f = go (ℕ_discrete b k)
          where
            go : Dec (b ≡ k) → b < k
            go (yes q) = absurd (true≢false (sym f ∙ ap (λ (i : ℕ). is_full (get_or old i 0)) q ∙ e))
            go (no q) = omega arith

        more : {c : ℕ} → Untouched new_n img c ⊎ ((b : ℕ) × (b < k) × (is_full (get_or old b 0) ≡ true) × (w.place b ≡ c))
            → Untouched new_n img c ⊎ ((b : ℕ) × (b < k + 1) × (is_full (get_or old b 0) ≡ true) × (w.place b ≡ c))
        more (inl u) = inl u
        more (inr s) = inr (s.0, omega (arith, s.1), s.2, s.3)

    -- a full one takes the bucket c that was free
    module _ (e : is_full (get_or old k 0) ≡ true) (c : ℕ) (gave : allocating limit (tags_of new_n img) new_n (get_or hashes k 0) ≡ given c) where
      abbrev h : ℕ
      h = get_or hashes k 0

      abbrev page : List ℕ
      page = page_at old old_n k

      abbrev next : List ℕ
      next = put (set img c (full_tag (get_or hashes k 0))) (page_start new_n c) (page_at old old_n k)

      image_fits_lem : image_fits new_n (length img) ≡ true
      image_fits_lem = ap (image_fits new_n) w.long ∙ fits

      size : length (page_at old old_n k) ≡ 4096
      size = block-length 4096 old (page_start old_n k)

      step : (v : ℕ) × AllocatedAt limit (tags_of new_n img) new_n (get_or hashes k 0) c v
      step = allocated_bucket limit (tags_of new_n img) new_n (get_or hashes k 0) c (allocation_is new_n img image_fits_lem limit (get_or hashes k 0) ∙ gave)

      at : AllocatedAt limit (tags_of new_n img) new_n (get_or hashes k 0) c step.0
      at = step.1

      inside : c < new_n
      inside = at.below

      was_free : is_free (get_or img c 0) ≡ true
      was_free = ap is_free (sym (tag_of new_n img c inside)) ∙ at.was_free

      -- no earlier page stands there
      new_place : (b : ℕ) → b < k → is_full (get_or old b 0) ≡ true → w.place b ≡ c → ⊥
      new_place b l f q =
          true≢false (sym was_free ∙ ap (λ (i : ℕ). is_free (get_or img i 0)) (sym q) ∙ ap is_free (w.moved b l f).tag ∙ full_not_free (get_or hashes b 0))

      -- what was not empty is not
      stays : (i : ℕ) → i < new_n → (get_or img i 0 ≡ 0x00 → ⊥) → get_or next i 0 ≡ 0x00 → ⊥
      stays i l f z = go (ℕ_discrete i c)
        where
          go : Dec (i ≡ c) → ⊥
          go (yes q) = full_tag_not_empty h (sym (store_tag new_n img w.long c h inside page size) ∙ ap (λ (j : ℕ). get_or next j 0) (sym q) ∙ z)
          go (no q) = f (sym (store_tag_other new_n img w.long c h inside page size i (omega arith) q) ∙ z)

      moved_before : (b d : ℕ) → (d ≡ c → ⊥) → Moved old old_n new_n img (get_or hashes b 0) b d → Moved old old_n new_n next (get_or hashes b 0) b d
      moved_before b d f m =
          record {
            below = m.below;
            tag = store_tag_other new_n img w.long c h inside page size d (omega (arith, m.below)) f ∙ m.tag;
            page = store_page_other new_n img w.long c h inside page size d f ∙ m.page;
            at = m.at;
            within = m.within;
            on_path = m.on_path;
            none_empty = λ j l. stays (visit new_n (get_or hashes b 0) j) (visit_below new_n (get_or hashes b 0) j (omega arith)) (m.none_empty j l);
          }

      moved_now : Moved old old_n new_n next (get_or hashes k 0) k c
      moved_now =
          record {
            below = inside;
            tag = store_tag new_n img w.long c h inside page size;
            page = store_page new_n img w.long c h inside page size;
            at = step.0;
            within = at.within;
            on_path = at.on_path;
            none_empty = λ j l. stays (visit new_n h j) (visit_below new_n h j (omega arith)) (λ z. not_empty j l z);
          }
        where
          not_empty : (j : ℕ) → j < step.0 → get_or img (visit new_n h j) 0 ≡ 0x00 → ⊥
          not_empty j l z =
              let v = visit new_n h j in
              let t : get_or (tags_of new_n img) v 0 ≡ 0x00 = tag_of new_n img v (visit_below new_n h j (omega arith)) ∙ z in
              true≢false (sym (ap is_free t) ∙ at.none_before j l)

      where_to : ℕ → ℕ
      where_to b = cond (eqb b k) c (w.place b)

      to_now : (b : ℕ) → b ≡ k → where_to b ≡ c
      unfolding where_to
      to_now b q = ap (λ (t : Bool). cond t c (w.place b)) (eq-eqb b k q)

      to_before : (b : ℕ) → (b ≡ k → ⊥) → where_to b ≡ w.place b
      unfolding where_to
      to_before b q = ap (λ (t : Bool). cond t c (w.place b)) (ne_eqb b k q)

      carried_full : Carried old old_n new_n hashes (k + 1) next
      carried_full =
          record {
            long = store_long new_n img w.long c h inside page size ∙ w.long;
            place = where_to;
            moved = λ b l f. moves b l f (ℕ_discrete b k);
            apart = λ b d l m f g q. differ b d l m f g q (ℕ_discrete b k) (ℕ_discrete d k);
            others = λ d l. rest d l (ℕ_discrete d c);
            padding = λ i l m. store_tag_other new_n img w.long c h inside page size i m (λ q. absurd (omega (arith, inside))) ∙ w.padding i l m;
            as_many =
                store_count new_n img w.long c h inside page size (free_not_full (get_or img c 0) was_free) ∙ ap (λ (m : ℕ). m + 1) w.as_many
                ∙ sym (count-suc full old k ∙ ap (λ (t : Bool). count_of full old k + one t) e);
          }
        where
          moves : (b : ℕ) → b < k + 1 → is_full (get_or old b 0) ≡ true → Dec (b ≡ k) → Moved old old_n new_n next (get_or hashes b 0) b (where_to b)
          moves b l f (yes q) =
              subst (λ (d : ℕ). Moved old old_n new_n next (get_or hashes b 0) b d) (sym (to_now b q)) (subst (λ (i : ℕ). Moved old old_n new_n next (get_or hashes i 0) i c) (sym q) moved_now)
          moves b l f (no q) =
              subst (λ (d : ℕ). Moved old old_n new_n next (get_or hashes b 0) b d) (sym (to_before b q))
              (moved_before b (w.place b) (new_place b (omega arith) f) (w.moved b (omega arith) f))

          differ : (b d : ℕ) → b < k + 1 → d < k + 1 → is_full (get_or old b 0) ≡ true → is_full (get_or old d 0) ≡ true → where_to b ≡ where_to d → Dec (b ≡ k) → Dec (d ≡ k) → b ≡ d
          differ b d l m f g q (yes x) (yes y) = x ∙ sym y
          differ b d l m f g q (yes x) (no y) = absurd (new_place d (omega arith) g (sym (to_before d y) ∙ sym q ∙ to_now b x))
          differ b d l m f g q (no x) (yes y) = absurd (new_place b (omega arith) f (sym (to_before b x) ∙ q ∙ to_now d y))
          differ b d l m f g q (no x) (no y) = w.apart b d (omega arith) (omega arith) f g (sym (to_before b x) ∙ q ∙ to_before d y)

          rest : (d : ℕ) → d < new_n → Dec (d ≡ c) → Untouched new_n next d ⊎ ((b : ℕ) × (b < k + 1) × (is_full (get_or old b 0) ≡ true) × (where_to b ≡ d))
          rest d l (yes q) = inr (k, omega arith, e, to_now k refl ∙ sym q)
          rest d l (no q) = go (w.others d l)
            where
              go : Untouched new_n img d ⊎ ((b : ℕ) × (b < k) × (is_full (get_or old b 0) ≡ true) × (w.place b ≡ d)) → Untouched new_n next d ⊎ ((b : ℕ) × (b < k + 1) × (is_full (get_or old b 0) ≡ true) × (where_to b ≡ d))
              go (inl u) =
                  inl (store_tag_other new_n img w.long c h inside page size d (omega arith) q ∙ u.0, store_page_other new_n img w.long c h inside page size d q ∙ u.1)
              go (inr s) = inr (s.0, omega (arith, s.1), s.2, to_before s.0 (λ x. absurd (omega (arith, s.1, x))) ∙ s.3)

  -- so it is after each of them
  pub carried : (k : ℕ) (img : List ℕ) → grown_to limit old old_n new_n hashes k ≡ given img → Carried old old_n new_n hashes k img
  carried zero img g =
      let z : zeroed new_n ≡ img = given_one (zeroed new_n) img (sym (grown_none limit old old_n new_n hashes) ∙ g) in
      subst (Carried old old_n new_n hashes 0) z carried_none
  carried (suc k) img g = go (grown_to limit old old_n new_n hashes k) refl (carried k)
    where
      step_on : (was : List ℕ) → Carried old old_n new_n hashes k was → (t : Bool) → is_full (get_or old k 0) ≡ t → (a : Answer ℕ) → allocating limit (tags_of new_n was) new_n (get_or hashes k 0) ≡ a
          → cond t (stored was new_n (get_or hashes k 0) (page_at old old_n k) a) (given was) ≡ given img → Carried old old_n new_n hashes (k + 1) img
      step_on was w true e (given c) a q = subst (Carried old old_n new_n hashes (k + 1)) (given_one _ img q) (carried_full k was w e c a)
      step_on was w true e (refused m) a q = let z : ◌≡◌ {A = ℕ} 0 1 = cc in absurd (omega arith)
      step_on was w false e a p q = subst (Carried old old_n new_n hashes (k + 1)) (given_one was img q) (carried_other k was w e)

      go : (x : Answer (List ℕ)) → grown_to limit old old_n new_n hashes k ≡ x → ((i : List ℕ) → grown_to limit old old_n new_n hashes k ≡ given i → Carried old old_n new_n hashes k i) → Carried old old_n new_n hashes (suc k) img
      go (given was) p rec =
          subst (λ (i : ℕ). Carried old old_n new_n hashes i img) (add-one k)
          (step_on was (rec was p) (is_full (get_or old k 0)) refl (allocating limit (tags_of new_n was) new_n (get_or hashes k 0)) refl
          (sym (grown_next limit old old_n new_n hashes k was p) ∙ ap (grown_to limit old old_n new_n hashes) (add-one k) ∙ g))
      go (refused m) p rec =
          let q : refused m ≡ given img = sym (grown_stop limit old old_n new_n hashes k m 1 p) ∙ ap (grown_to limit old old_n new_n hashes) (add-one k) ∙ g in
          let z : ◌≡◌ {A = ℕ} 0 1 = cc in absurd (omega arith)
