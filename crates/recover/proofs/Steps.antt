-- One entry applied: what its step answers, and that the bytes written are those of the definition. Assumes nothing.
use mathlib.Core.Path.{◌≡◌, refl, sym, ap, ap₂, ◌∙◌}
use mathlib.Core.Bool.{Bool, true, false, cond, ◌&&◌, ◌||◌}
use mathlib.Core.List.{List}
use Prim.Native.Nat.{ℕ, ◌+◌, ◌-◌, ◌≤◌, ◌<◌}
use native.Mathlib.Nat.{lt_of_not-le}
use native.Mathlib.Decide.{dec_le, ℕ_discrete}
use native.Mathlib.Omega.{arith}
use lib.Dec.{eqb, ltb}
use lib.ListN.{length, get_or, set, take, drop, length-set}
use lib.Seq.{get_or-set_same, get_or-set_other, get_or-take, get_or-drop}
use borrow.Author.Tests.{eq-eqb, ne_eqb, le-leb, lt-leb, lt-ltb, le-ltb}
use Rattle.answers.specs.Answers.{Answer, given, refused, accepted}
use Rattle.blocks.specs.Blocks.{put}
use Rattle.blocks.proofs.Laws.{put_in, put_left, put_right, put-length, tabulate-length, tabulate-get_or, tabulate_is}
use Rattle.ht_file.specs.Places.{image_fits, image_length, page_start, if_table}
use Rattle.ht_file.proofs.Laws.{table_unfit}
use Rattle.meta_map.specs.Tags.{full_tag}
use Rattle.wal.specs.Log.{Entry, clear, update}
use Rattle.wal.specs.Reader.{Next, next, ended, stopped, next_by}
use Rattle.wal_read.specs.Head.{the_end, a_refusal, head_of}
use Rattle.wal_read.proofs.ReadLaws.{head_end, head_stop}
use Rattle.wal.specs.declared.AfterEnd.{AfterEnd}
use Rattle.wal.specs.declared.Edition.{Edition}
use Rattle.recover.specs.Places.{Step, entry_names, entry_gives, names, gives, in_page, page_named, page_gives, page_after, stepped}
use Rattle.recover.specs.Replay.{bucket_of, Went, at_end, went_to, by_next, step_answer, step_by, step_image}

-- ---- the answer, test by test
module _ (rule : AfterEnd) (n : ℕ) (image : List ℕ) (ed : Edition) (log : List ℕ) (at h : ℕ) where
  -- the table is unfit
  pub step_unfit : (m : ℕ) → if_table {A = Unit {0}} (image_fits n (length image)) (given tt) ≡ refused m → (refused m ≡ step_answer rule n image ed log at) × (image ≡ step_image rule n image ed log at h)
  unfolding step_answer step_image
  step_unfit m e =
      let a : refused m ≡ step_answer rule n image ed log at = table_unfit (image_fits n (length image)) m (by_next n (next_by rule ed log at)) e in
      (a, ap (λ (x : Answer Went). cond (accepted x) (step_by n (next_by rule ed log at) h image) image) a)

  module _ (fits : image_fits n (length image) ≡ true) where
    pub by_next_lem : (x : Next) → next_by rule ed log at ≡ x → step_answer rule n image ed log at ≡ by_next n x
    unfolding step_answer
    by_next_lem x e = ap (λ (t : Bool). cond t (by_next n (next_by rule ed log at)) (refused 1)) fits ∙ ap (by_next n) e

    pub image_by_lem : (x : Next) → next_by rule ed log at ≡ x → step_image rule n image ed log at h ≡ cond (accepted (by_next n x)) (step_by n x h image) image
    unfolding step_image
    image_by_lem x e = ap₂ (λ (a : Answer Went) (y : Next). cond (accepted a) (step_by n y h image) image) (by_next_lem x e) e

    -- an entry outside the table
    pub step_outside : (e : Entry) (p : ℕ) → next_by rule ed log at ≡ next e p → n ≤ bucket_of e → (refused 9 ≡ step_answer rule n image ed log at) × (image ≡ step_image rule n image ed log at h)
    step_outside e p q l =
        let t : ltb (bucket_of e) n ≡ false = le-ltb (bucket_of e) n l in (
          sym (by_next_lem (next e p) q ∙ ap (λ (b : Bool). cond b (given (went_to e p)) (refused 9)) t),
          sym (image_by_lem (next e p) q ∙ ap (λ (b : Bool). cond (accepted (cond b (given (went_to e p)) (refused 9))) (step_by n (next e p) h image) image) t),
        )

    -- an entry inside it
    pub step_taken : (e : Entry) (p : ℕ) → next_by rule ed log at ≡ next e p → bucket_of e < n → (given (went_to e p) ≡ step_answer rule n image ed log at) × (stepped n (record { entry = e; hash = h }) image ≡ step_image rule n image ed log at h)
    step_taken e p q l =
        let t : ltb (bucket_of e) n ≡ true = lt-ltb (bucket_of e) n l in (
          sym (by_next_lem (next e p) q ∙ ap (λ (b : Bool). cond b (given (went_to e p)) (refused 9)) t),
          sym (image_by_lem (next e p) q ∙ ap (λ (b : Bool). cond (accepted (cond b (given (went_to e p)) (refused 9))) (step_by n (next e p) h image) image) t),
        )

    -- where the reading stops: at the end, or by a refusal
    pub step_end : the_end ≡ head_of (next_by rule ed log at) → (given at_end ≡ step_answer rule n image ed log at) × (image ≡ step_image rule n image ed log at h)
    step_end e = let s = head_end (next_by rule ed log at) e in (sym (by_next_lem ended s), sym (image_by_lem ended s))

    pub step_refused : (k : ℕ) → a_refusal k ≡ head_of (next_by rule ed log at) → (refused k ≡ step_answer rule n image ed log at) × (image ≡ step_image rule n image ed log at h)
    step_refused k e = let s = head_stop (next_by rule ed log at) k e in (sym (by_next_lem (stopped k) s), sym (image_by_lem (stopped k) s))

-- ---- the bytes: what is equal at each place to the definition is it
stepped_is : (n : ℕ) (s : Step) (image out : List ℕ) → length out ≡ length image → ((j : ℕ) → j < length image → get_or out j 0 ≡ cond (names n s j) (gives n s j) (get_or image j 0)) → out ≡ stepped n s image
stepped_is n s image out l f = tabulate_is (λ j. cond (names n s j) (gives n s j) (get_or image j 0)) (length image) out l f

-- a clear writes the tag alone
pub clear_image : (n b h : ℕ) (image : List ℕ) → b < length image → set image b 0x7F ≡ stepped n (record { entry = clear b; hash = h }) image
unfolding entry_names entry_gives
clear_image n b h image l =
    stepped_is n (record { entry = clear b; hash = h }) image (set image b 0x7F) (length-set image b 0x7F) (λ j k. go j k (ℕ_discrete j b))
  where
    go : (j : ℕ) → j < length image → Dec (j ≡ b) → get_or (set image b 0x7F) j 0 ≡ cond (eqb j b) 0x7F (get_or image j 0)
    go j k (yes e) =
        ap (λ (i : ℕ). get_or (set image b 0x7F) i 0) e ∙ get_or-set_same image b 0x7F 0 l ∙ sym (ap (λ (t : Bool). cond t 0x7F (get_or image j 0)) (eq-eqb j b e))
    go j k (no e) = get_or-set_other image b j 0x7F 0 e ∙ sym (ap (λ (t : Bool). cond t 0x7F (get_or image j 0)) (ne_eqb j b e))

-- an update writes its tag, and its page's marked slots and last 40 bytes
module _ (n : ℕ) (id ws : List ℕ) (ns : List (List ℕ)) (el : List ℕ) (b h : ℕ) (image : List ℕ) (long : length image ≡ image_length n) (inside : b < n) where
  abbrev at_page : ℕ
  at_page = page_start n b

  abbrev tagged : List ℕ
  tagged = set image b (full_tag h)

  abbrev page_of : List ℕ
  page_of = take 4096 (drop (page_start n b) (set image b (full_tag h)))

  after_long : length (page_after id ws ns el page_of) ≡ 4096
  after_long = tabulate-length (λ o. cond (page_named ws o) (page_gives id ws ns el o) (get_or page_of o 0)) 4096

  fits_in : page_start n b + 4096 ≤ length image
  fits_in = omega (arith, long)

  tagged_long : length tagged ≡ length image
  tagged_long = length-set image b (full_tag h)

  -- away from the tag the image is as it was
  tagged_other : (j : ℕ) → (j ≡ b → ⊥) → get_or tagged j 0 ≡ get_or image j 0
  tagged_other j e = get_or-set_other image b j (full_tag h) 0 e

  -- a byte of the page
  page_byte : (o : ℕ) → o < 4096 → get_or page_of o 0 ≡ get_or image (page_start n b + o) 0
  page_byte o l = get_or-take 4096 (drop (page_start n b) tagged) o 0 l ∙ get_or-drop (page_start n b) tagged o 0 ∙ tagged_other (page_start n b + o) (λ e. omega arith)

  pub update_image : put (set image b (full_tag h)) (page_start n b) (page_after id ws ns el (take 4096 (drop (page_start n b) (set image b (full_tag h))))) ≡ stepped n (record { entry = update id ws ns el b; hash = h }) image
  unfolding entry_names entry_gives
  update_image =
      stepped_is n (record { entry = update id ws ns el b; hash = h }) image (put tagged (page_start n b) (page_after id ws ns el page_of))
      (put-length tagged (page_start n b) (page_after id ws ns el page_of) ∙ tagged_long) (λ j k. go j k (ℕ_discrete j b) (dec_le (page_start n b) j) (dec_le (page_start n b + 4096) j))
    where
      out : List ℕ
      out = put tagged (page_start n b) (page_after id ws ns el page_of)

      -- the right side, by the tests of the place
      right : (j : ℕ) (x y : Bool) → eqb j b ≡ x → in_page n b j ≡ y
          → cond (eqb j b || (in_page n b j && page_named ws (j - page_start n b))) (cond (eqb j b) (full_tag h) (page_gives id ws ns el (j - page_start n b))) (get_or image j 0)
          ≡ cond (x || (y && page_named ws (j - page_start n b))) (cond x (full_tag h) (page_gives id ws ns el (j - page_start n b))) (get_or image j 0)
      right j x y e f =
          ap₂ (λ (t u : Bool). cond (t || (u && page_named ws (j - page_start n b))) (cond t (full_tag h) (page_gives id ws ns el (j - page_start n b))) (get_or image j 0)) e f

      go : (j : ℕ) → j < length image → Dec (j ≡ b) → Dec (page_start n b ≤ j) → Dec (page_start n b + 4096 ≤ j)
          → get_or (put tagged (page_start n b) (page_after id ws ns el page_of)) j 0
          ≡ cond (eqb j b || (in_page n b j && page_named ws (j - page_start n b))) (cond (eqb j b) (full_tag h) (page_gives id ws ns el (j - page_start n b))) (get_or image j 0)
      go j k (yes e) p q =
          put_left tagged (page_start n b) (page_after id ws ns el page_of) j (omega arith) ∙ ap (λ (i : ℕ). get_or tagged i 0) e ∙ get_or-set_same image b (full_tag h) 0 (omega (arith, long))
          ∙ sym (right j true (in_page n b j) (eq-eqb j b e) refl)
      go j k (no e) (yes p) (yes q) =
          put_right tagged (page_start n b) (page_after id ws ns el page_of) j (omega (arith, after_long)) ∙ tagged_other j e
          ∙ sym (right j false false (ne_eqb j b e) (ap₂ ◌&&◌ (le-leb (page_start n b) j p) (le-ltb j (page_start n b + 4096) q)))
      go j k (no e) (yes p) (no q) =
          let o : ℕ = j - page_start n b in
          let back : page_start n b + (j - page_start n b) ≡ j = omega arith in
          put_in tagged (page_start n b) (page_after id ws ns el page_of) j (omega (arith, after_long, tagged_long, fits_in)) p (omega (arith, after_long))
          ∙ tabulate-get_or (λ i. cond (page_named ws i) (page_gives id ws ns el i) (get_or page_of i 0)) 4096 o (omega arith)
          ∙ ap (λ (v : ℕ). cond (page_named ws o) (page_gives id ws ns el o) v) (page_byte o (omega arith) ∙ ap (λ (i : ℕ). get_or image i 0) back)
          ∙ sym (right j false true (ne_eqb j b e) (ap₂ ◌&&◌ (le-leb (page_start n b) j p) (lt-ltb j (page_start n b + 4096) (lt_of_not-le q))))
      go j k (no e) (no p) q =
          put_left tagged (page_start n b) (page_after id ws ns el page_of) j (lt_of_not-le p) ∙ tagged_other j e
          ∙ sym (right j false false (ne_eqb j b e) (ap (λ (t : Bool). t && ltb j (page_start n b + 4096)) (lt-leb (page_start n b) j (lt_of_not-le p))))
