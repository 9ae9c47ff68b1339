-- A page's label stands where every part looks for it: replay writes the elided children and the id into the last 40
-- bytes of the bucket's page, lookup compares the last 32, and sync logs the 8 before them. Read off byte by byte.
-- Assumes nothing.
use mathlib.Core.Path.{◌≡◌, refl, sym, ap, ap₂, ◌∙◌, subst}
use mathlib.Core.Bool.{Bool, true, false, cond, not, ◌&&◌, ◌||◌, or-true}
use mathlib.Core.List.{List, [], ◌∷◌, ◌++◌, map}
use mathlib.Core.Logic.{◌⊎◌, inl, inr}
use Prim.Native.Nat.{ℕ, ◌+◌, ◌-◌, ◌/◌, ◌%◌, ◌≤◌, ◌<◌}
use native.Mathlib.Nat.{lt_of_not-le}
use native.Mathlib.Decide.{dec_le}
use native.Mathlib.Omega.{arith}
use lib.Dec.{leb, ltb, eqb}
use lib.ListN.{length, get_or, take, drop, length-drop}
use lib.Seq.{ext_get_or, length-take-le, get_or-take, get_or-drop}
use borrow.Author.Tests.{le-leb, lt-leb, lt-ltb, le-ltb, eq-eqb, ne_eqb, eqb-false, ltb-true, not-true}
use Rattle.answers.specs.Answers.{given, refused}
use Rattle.answers.proofs.Laws.{given_refused}
use Rattle.blocks.specs.Blocks.{block}
use Rattle.blocks.proofs.Laws.{block-length}
use Rattle.ht_file.specs.Places.{image_length, page_start, image_fits}
use Rattle.ht_file.proofs.Laws.{both_hold, image_fits_facts}
use Rattle.meta_map.specs.Tags.{full_tag}
use Rattle.page_diff.specs.Diff.{marked, slots}
use Rattle.page_diff.specs.Pack.{node_at, rank}
use Rattle.probe.specs.Path.{page_end, holds}
use Rattle.probe.proofs.Promises.{page_holds}
use Rattle.wal.specs.declared.AfterEnd.{AfterEnd}
use Rattle.wal.specs.declared.AfterEnd.TheVariants.{Tolerant}
use Rattle.wal.specs.declared.Edition.{Edition}
use Rattle.wal.proofs.Endings.{same_entries}
use Rattle.wal.specs.Log.{Entry, clear, update}
use Rattle.wal.specs.Reader.{next, next_by, read_log}
use Rattle.wal_write.specs.Calls.{page_update}
use Rattle.recover.specs.Places.{Step, with_hashes, in_page, page_named, entry_names, page_gives, entry_gives, named_in, replayed, stepped}
use Rattle.recover.specs.Replay.{bucket_of, all_inside, check_answer, after_entries, applied, replay_answer, replay_image, steps_of, step_image, updates_in}
use Rattle.recover.proofs.Demand3.{stepped_at, stepped-length, replayed-length, replayed_other, replayed_step, replayed-append}
use Rattle.recover.proofs.OneImage.{applied_image}
use Rattle.recover.proofs.Replays.{applied_told}
use Rattle.recover.proofs.Steps.{step_taken}
use Rattle.recover.specs.declared.Expected.{Expected}

-- bucket b holds the page with the hash h: its tag is the hash's, its page ends in the elided children and the id, and
-- a lookup's test passes
pub record Labelled (n : ℕ) (image : List ℕ) (b h : ℕ) (id el : List ℕ) : Type 0 where
  pub tag : get_or image b 0 ≡ full_tag h
  pub ends : page_end image n b ≡ id
  pub elided : take 8 (drop (page_start n b + 4056) image) ≡ el
  pub held : holds image n h id b ≡ true

-- a part of a list is what its elements are
part_is : (s l : List ℕ) (from k : ℕ) → from + k ≤ length s → length l ≡ k → ((i : ℕ) → i < k → get_or s (from + i) 0 ≡ get_or l i 0) → take k (drop from s) ≡ l
part_is s l from k fits long each =
    let part_long : length (take k (drop from s)) ≡ k = length-take-le k (drop from s) (omega (arith, length-drop from s)) in
    ext_get_or 0 (take k (drop from s)) l (part_long ∙ sym long)
    (λ i h. let q : i < k = omega (arith, part_long) in get_or-take k (drop from s) i 0 q ∙ get_or-drop from s i 0 ∙ each i q)

-- an image whose tag and last 40 bytes are those that an update gives
module _ (n b h : ℕ) (id ws : List ℕ) (ns : List (List ℕ)) (el image : List ℕ) (long : length image ≡ image_length n) (inside : b < n) (id_long : length id ≡ 32) (el-long : length el ≡ 8) where
  by_bytes : get_or image b 0 ≡ full_tag h → ((o : ℕ) → 4056 ≤ o → o < 4096 → get_or image (page_start n b + o) 0 ≡ page_gives id ws ns el o) → Labelled n image b h id el
  by_bytes t f =
      let fits : page_start n b + 4096 ≤ length image = omega (arith, long) in
      let e : page_end image n b ≡ id = part_is image id (page_start n b + 4064) 32 (omega arith) id_long ids in
      record {
        tag = t;
        ends = e;
        elided = part_is image el (page_start n b + 4056) 8 (omega arith) el-long els;
        held = page_holds image n h id b (t, e);
      }
    where
      ids : (i : ℕ) → i < 32 → get_or image (page_start n b + 4064 + i) 0 ≡ get_or id i 0
      ids i q =
          let at : page_start n b + 4064 + i ≡ page_start n b + (4064 + i) = omega arith in
          let back : 4064 + i - 4064 ≡ i = omega arith in
          ap (λ (j : ℕ). get_or image j 0) at ∙ f (4064 + i) (omega arith) (omega arith)
          ∙ ap (λ (x : Bool). cond x (get_or id (4064 + i - 4064) 0) (cond (leb 4056 (4064 + i)) (get_or el (4064 + i - 4056) 0) (get_or (get_or ns (rank ws ((4064 + i) / 32)) []) ((4064 + i) % 32) 0))) (le-leb 4064 (4064 + i) (omega arith))
          ∙ ap (λ (j : ℕ). get_or id j 0) back

      els : (i : ℕ) → i < 8 → get_or image (page_start n b + 4056 + i) 0 ≡ get_or el i 0
      els i q =
          let at : page_start n b + 4056 + i ≡ page_start n b + (4056 + i) = omega arith in
          let back : 4056 + i - 4056 ≡ i = omega arith in
          ap (λ (j : ℕ). get_or image j 0) at ∙ f (4056 + i) (omega arith) (omega arith)
          ∙ ap₂ (λ (x y : Bool). cond x (get_or id (4056 + i - 4064) 0) (cond y (get_or el (4056 + i - 4056) 0) (get_or (get_or ns (rank ws ((4056 + i) / 32)) []) ((4056 + i) % 32) 0))) (lt-leb 4064 (4056 + i) (omega arith)) (le-leb 4056 (4056 + i) (omega arith))
          ∙ ap (λ (j : ℕ). get_or el j 0) back

-- what an update gives the bytes of its label
module _ (n b h : ℕ) (id ws : List ℕ) (ns : List (List ℕ)) (el : List ℕ) (inside : b < n) where
  tag_given : (entry_names n (update id ws ns el b) b ≡ true) × (entry_gives n (update id ws ns el b) h b ≡ full_tag h)
  unfolding entry_names entry_gives
  tag_given =
      let e : eqb b b ≡ true = eq-eqb b b refl in (
        ap (λ (t : Bool). t || (in_page n b b && page_named ws (b - page_start n b))) e,
        ap (λ (t : Bool). cond t (full_tag h) (page_gives id ws ns el (b - page_start n b))) e,
      )

  label_given : (o : ℕ) → 4056 ≤ o → o < 4096 → (entry_names n (update id ws ns el b) (page_start n b + o) ≡ true) × (entry_gives n (update id ws ns el b) h (page_start n b + o) ≡ page_gives id ws ns el o)
  unfolding entry_names entry_gives
  label_given o l q =
      let j : ℕ = page_start n b + o in
      let not-tag : eqb (page_start n b + o) b ≡ false = ne_eqb (page_start n b + o) b (λ e. omega arith) in
      let within : in_page n b (page_start n b + o) ≡ true = ap₂ ◌&&◌ (le-leb (page_start n b) (page_start n b + o) (omega arith)) (lt-ltb (page_start n b + o) (page_start n b + 4096) (omega arith)) in
      let back : page_start n b + o - page_start n b ≡ o = omega arith in
      let last : page_named ws (page_start n b + o - page_start n b) ≡ true =
      ap (page_named ws) back ∙ ap (λ (t : Bool). marked ws (o / 32) || t) (le-leb 4056 o l) ∙ or-true (marked ws (o / 32)) in (
        ap₂ ◌||◌ not-tag (ap₂ ◌&&◌ within last),
        ap (λ (t : Bool). cond t (full_tag h) (page_gives id ws ns el (page_start n b + o - page_start n b))) not-tag ∙ ap (page_gives id ws ns el) back,
      )

  -- the image after it
  module _ (image : List ℕ) (long : length image ≡ image_length n) (id_long : length id ≡ 32) (el-long : length el ≡ 8) where
    abbrev the_update : Step
    the_update = record { entry = update id ws ns el b; hash = h }

    stepped_byte : (j v : ℕ) → j < length image → (entry_names n (update id ws ns el b) j ≡ true) × (entry_gives n (update id ws ns el b) h j ≡ v) → get_or (stepped n the_update image) j 0 ≡ v
    stepped_byte j v l g =
        stepped_at n the_update image j l ∙ ap (λ (t : Bool). cond t (entry_gives n (update id ws ns el b) h j) (get_or image j 0)) g.0 ∙ g.1

    pub stepped_labelled : Labelled n (stepped n the_update image) b h id el
    stepped_labelled =
        by_bytes n b h id ws ns el (stepped n the_update image) (stepped-length n the_update image ∙ long) inside id_long el-long (stepped_byte b (full_tag h) (omega (arith, long)) tag_given)
        (λ o l q. stepped_byte (page_start n b + o) (page_gives id ws ns el o) (omega (arith, long)) (label_given o l q))

-- ---- one step of replay: what `apply_entry` leaves where an update of a bucket inside the table stands at its position
pub step_labelled : (rule : AfterEnd) (n : ℕ) (image : List ℕ) (ed : Edition) (log : List ℕ) (at h : ℕ) (id ws : List ℕ) (ns : List (List ℕ)) (el : List ℕ) (b p : ℕ) → image_fits n (length image) ≡ true → next_by rule ed log at ≡ next (update id ws ns el b) p
    → b < n → length id ≡ 32 → length el ≡ 8 → Labelled n (step_image rule n image ed log at h) b h id el
step_labelled rule n image ed log at h id ws ns el b p fits here inside id_long el-long =
    subst (λ (l : List ℕ). Labelled n l b h id el) (step_taken rule n image ed log at h fits (update id ws ns el b) p here inside).1
    (stepped_labelled n b h id ws ns el inside image (image_fits_facts n (length image) fits).2 id_long el-long)

-- and where it is the update that a sync logs of a page: the elided children stand where they stood in that page
pub logged_labelled : (rule : AfterEnd) (n : ℕ) (image : List ℕ) (ed : Edition) (log : List ℕ) (at h : ℕ) (id ws page : List ℕ) (b p : ℕ) → image_fits n (length image) ≡ true → next_by rule ed log at ≡ next (page_update id ws page b) p
    → b < n → length id ≡ 32 → Labelled n (step_image rule n image ed log at h) b h id (block 8 page 4056)
logged_labelled rule n image ed log at h id ws page b p fits here inside id_long =
    step_labelled rule n image ed log at h id ws (map (node_at page) (slots ws)) (block 8 page 4056) b p fits here inside id_long (block-length 8 page 4056)

-- ---- a whole replay
-- no entry is of bucket b
unfoldable pub elsewhere : ℕ → List Step → Bool
elsewhere b [] = true
elsewhere b (s ∷ ss) = not (eqb (bucket_of s.entry) b) && elsewhere b ss

-- every entry is of a bucket inside the table
unfoldable inside_all : ℕ → List Step → Bool
inside_all n [] = true
inside_all n (s ∷ ss) = ltb (bucket_of s.entry) n && inside_all n ss

steps_inside : (n : ℕ) (es : List Entry) (hs : List ℕ) → all_inside n es ≡ true → inside_all n (with_hashes es hs) ≡ true
unfolding all_inside with_hashes inside_all
steps_inside n [] hs e = refl
steps_inside n (clear b ∷ es) hs e =
    let q = both_hold (ltb b n) (all_inside n es) e in ap₂ ◌&&◌ q.0 (steps_inside n es hs q.1)
steps_inside n (update id ws ns el b ∷ es) hs e =
    let q = both_hold (ltb b n) (all_inside n es) e in ap₂ ◌&&◌ q.0 (steps_inside n es (drop 1 hs) q.1)

inside_from : (n : ℕ) (before after : List Step) → inside_all n (before ++ after) ≡ true → inside_all n after ≡ true
unfolding inside_all
inside_from n [] after e = e
inside_from n (s ∷ ss) after e = inside_from n ss after (both_hold (ltb (bucket_of s.entry) n) (inside_all n (ss ++ after)) e).1

-- an entry of another bucket names neither the bucket's tag nor a byte of its page
module _ (n b : ℕ) (inside : b < n) where
  abbrev OfBucket : ℕ → Type 0
  OfBucket j = (j ≡ b) ⊎ ((page_start n b ≤ j) × (j < page_start n b + 4096))

  other_tag : (c j : ℕ) → c < n → (c ≡ b → ⊥) → OfBucket j → eqb j c ≡ false
  other_tag c j l q (inl e) = ne_eqb j c (λ z. q (sym z ∙ e))
  other_tag c j l q (inr r) = ne_eqb j c (λ z. omega (arith, r.0))

  other_page : (c j : ℕ) → c < n → (c ≡ b → ⊥) → OfBucket j → in_page n c j ≡ false
  other_page c j l q (inl e) = ap (λ (t : Bool). t && ltb j (page_start n c + 4096)) (lt-leb (page_start n c) j (omega arith))
  other_page c j l q (inr r) = go (dec_le (b + 1) c) (dec_le (c + 1) b)
    where
      go : Dec (b + 1 ≤ c) → Dec (c + 1 ≤ b) → in_page n c j ≡ false
      go (yes x) y = ap (λ (t : Bool). t && ltb j (page_start n c + 4096)) (lt-leb (page_start n c) j (omega (arith, r.1)))
      go (no x) (yes y) = ap₂ ◌&&◌ (le-leb (page_start n c) j (omega (arith, r.0))) (le-ltb j (page_start n c + 4096) (omega (arith, r.0)))
      go (no x) (no y) = let same : c ≡ b = omega (arith, lt_of_not-le x, lt_of_not-le y) in absurd (q same)

  other_entry : (e : Entry) (j : ℕ) → bucket_of e < n → (bucket_of e ≡ b → ⊥) → OfBucket j → entry_names n e j ≡ false
  unfolding entry_names
  other_entry (clear c) j l q o = other_tag c j l q o
  other_entry (update id ws ns el c) j l q o = ap₂ (λ (t u : Bool). t || (u && page_named ws (j - page_start n c))) (other_tag c j l q o) (other_page c j l q o)

  unnamed : (ss : List Step) → inside_all n ss ≡ true → elsewhere b ss ≡ true → (j : ℕ) → OfBucket j → named_in n ss j ≡ false
  unfolding inside_all elsewhere named_in
  unnamed [] i e j o = refl
  unnamed (s ∷ ss) i e j o =
      let x = both_hold (ltb (bucket_of s.entry) n) (inside_all n ss) i in
      let y = both_hold (not (eqb (bucket_of s.entry) b)) (elsewhere b ss) e in
      ap₂ ◌||◌ (other_entry s.entry j (ltb-true (bucket_of s.entry) n x.0) (eqb-false (bucket_of s.entry) b (not-true (eqb (bucket_of s.entry) b) y.0)) o) (unnamed ss x.1 y.1 j o)

-- the check of an accepted log has found its buckets inside the table
check_inside : (rule : AfterEnd) (n : ℕ) (log : List ℕ) (hashes : ℕ) → check_answer rule n log hashes ≡ given tt → all_inside n (read_log rule log).entries ≡ true
unfolding check_answer
check_inside rule n log hashes e = go (all_inside n (read_log rule log).entries) refl e
  where
    go : (t : Bool) → all_inside n (read_log rule log).entries ≡ t → cond t (after_entries (read_log rule log).stop (cond (eqb hashes (updates_in (read_log rule log).entries)) (given tt) (refused 2))) (refused 9) ≡ given tt
        → all_inside n (read_log rule log).entries ≡ true
    go true p q = p
    go false p q = absurd (given_refused tt 9 (sym q))

-- what `recover` leaves where it answers applied: the label of the last update of a bucket that no later entry is of
pub replay_labelled : (rule : AfterEnd) (n : ℕ) (table log : List ℕ) (want : Expected) (hashes : List ℕ) → replay_answer rule n table log want hashes ≡ given applied
    → (before after : List Step) (id ws : List ℕ) (ns : List (List ℕ)) (el : List ℕ) (b h : ℕ) → steps_of log hashes ≡ before ++ (record { entry = update id ws ns el b; hash = h } ∷ after)
    → elsewhere b after ≡ true → length id ≡ 32 → length el ≡ 8 → Labelled n (replay_image rule n table log want hashes) b h id el
unfolding inside_all
replay_labelled rule n table log want hashes ok before after id ws ns el b h split away id_long el-long =
    let s : Step = record { entry = update id ws ns el b; hash = h } in
    let told = applied_told rule n (length table) log want (length hashes) ok in
    let long : length table ≡ image_length n = (image_fits_facts n (length table) told.0).2 in
    let all_in : inside_all n (s ∷ after) ≡ true =
    inside_from n before (s ∷ after) (ap (inside_all n) (sym split) ∙ steps_inside n (read_log Tolerant log).entries hashes (sym (ap (all_inside n) (same_entries rule log)) ∙ check_inside rule n log (length hashes) told.1)) in
    let here = both_hold (ltb b n) (inside_all n after) all_in in
    let inside : b < n = ltb-true b n here.0 in
    let first : List ℕ = replayed n before table in
    let first_long : length first ≡ image_length n = replayed-length n before table ∙ long in
    let then : List ℕ = stepped n s first in
    let then-long : length then ≡ image_length n = stepped-length n s first ∙ first_long in
    let image-is : replay_image rule n table log want hashes ≡ replayed n after then =
    applied_image rule n table log want hashes ok ∙ ap (λ (ss : List Step). replayed n ss table) split ∙ replayed-append n before (s ∷ after) table ∙ replayed_step n s after first in
    let byte : (j v : ℕ) → j < length then → OfBucket n b inside j → get_or then j 0 ≡ v → get_or (replayed n after then) j 0 ≡ v =
    λ j v q o e. replayed_other n after then j q (unnamed n b inside after here.1 away j o) ∙ e in
    subst (λ (i : List ℕ). Labelled n i b h id el) (sym image-is)
    (by_bytes n b h id ws ns el (replayed n after then) (replayed-length n after then ∙ then-long) inside id_long el-long
    (byte b (full_tag h) (omega (arith, then-long)) (inl refl) (stepped_byte n b h id ws ns el inside first first_long id_long el-long b (full_tag h) (omega (arith, first_long)) (tag_given n b h id ws ns el inside)))
    (λ o l q. byte (page_start n b + o) (page_gives id ws ns el o) (omega (arith, then-long)) (inr (omega arith, omega arith))
    (stepped_byte n b h id ws ns el inside first first_long id_long el-long (page_start n b + o) (page_gives id ws ns el o) (omega (arith, first_long)) (label_given n b h id ws ns el inside o l q))))
