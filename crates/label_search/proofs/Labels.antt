-- Labels: where one stands in an image, its words, and the search for it among earlier buckets. Assumes nothing.
use mathlib.Core.Path.{◌≡◌, refl, sym, ap, ap₂, ◌∙◌}
use mathlib.Core.Bool.{Bool, true, false, true≢false, ◌&&◌, ◌||◌}
use mathlib.Core.List.{List}
use Prim.Native.Nat.{ℕ, zero, suc, ◌+◌, ◌≤◌, ◌<◌}
use native.Mathlib.Decide.{ℕ_discrete}
use native.Mathlib.Numerals.{add-one}
use native.Mathlib.Omega.{arith}
use lib.ListN.{length, get_or, take, drop, length-drop}
use lib.Seq.{get_or-take, get_or-drop, length-take-le, ext_get_or}
use Rattle.blocks.specs.Blocks.{le, block, same_bytes}
use Rattle.blocks.proofs.Laws.{block-length, block-get_or}
use Rattle.ht_file.specs.Places.{image_length, page_start, start_in}
use Rattle.ht_file.proofs.Laws.{both_hold, start_is}
use Rattle.probe.specs.Path.{page_end}
use Rattle.blocks.proofs.Same.{same_equal, equal_same}
use Rattle.meta_map.specs.Tags.{is_full}
use Rattle.label_search.specs.Labels.{labelled, doubled}
use Rattle.label_search.specs.InnerFilter.{mixed, key_of}

-- a bucket's label stands within the image
pub label_within : (n b len : ℕ) → len ≡ image_length n → b < n → page_start n b + 4064 + 32 ≤ len
label_within n b len e l = omega arith

-- and where the code reads it
pub end_read : (img : List ℕ) (n b x : ℕ) → n ≤ 1048576 → b ≤ n → x ≡ start_in n b → take 32 (drop (x + 4064) img) ≡ page_end img n b
end_read img n b x l m e = ap (λ (y : ℕ). take 32 (drop (y + 4064) img)) (e ∙ start_is n b l m)

-- a word of a label is one of the image
pub word_of : (img : List ℕ) (a o : ℕ) → a + 32 ≤ length img → o + 8 ≤ 32 → block 8 img (a + o) ≡ block 8 (take 32 (drop a img)) o
word_of img a o l m =
    let long : length (take 32 (drop a img)) ≡ 32 = length-take-le 32 (drop a img) (omega (arith, length-drop a img)) in
    ext_get_or 0 (block 8 img (a + o)) (block 8 (take 32 (drop a img)) o) (block-length 8 img (a + o) ∙ sym (block-length 8 (take 32 (drop a img)) o)) (λ i h.
    let s : i < 8 = omega (arith, block-length 8 img (a + o)) in
    let e : a + o + i ≡ a + (o + i) = omega arith in
    block-get_or 8 img (a + o) i (omega arith) s ∙ ap (λ (j : ℕ). get_or img j 0) e
    ∙ sym (block-get_or 8 (take 32 (drop a img)) o i (omega arith) s ∙ get_or-take 32 (drop a img) (o + i) 0 (omega arith) ∙ get_or-drop a img (o + i) 0))

-- so the key of the words that stand in the image is the label's
pub key_read : (img : List ℕ) (a : ℕ) → a + 32 ≤ length img
    → mixed (le (block 8 img a)) (le (block 8 img (a + 8))) (le (block 8 img (a + 16))) (le (block 8 img (a + 24))) ≡ key_of (take 32 (drop a img))
unfolding key_of
key_read img a l =
    let z : a ≡ a + 0 = omega arith in
    let w0 = ap (block 8 img) z ∙ word_of img a 0 l (omega arith) in
    let w1 = word_of img a 8 l (omega arith) in
    let w2 = word_of img a 16 l (omega arith) in
    let w3 = word_of img a 24 l (omega arith) in
    λ i. mixed (le (w0 i)) (le (w1 i)) (le (w2 i)) (le (w3 i))

-- ---- the search
-- an earlier full bucket with the label
pub record Earlier (img : List ℕ) (n : ℕ) (l : List ℕ) (k : ℕ) : Type 0 where
  pub bucket : ℕ
  pub before : bucket < k
  pub full : is_full (get_or img bucket 0) ≡ true
  pub same : page_end img n bucket ≡ l

module _ (img : List ℕ) (n : ℕ) (l : List ℕ) where
  pub labelled_none : labelled img n l 0 ≡ false
  unfolding labelled
  labelled_none = refl

  pub labelled_next : (j : ℕ) → labelled img n l (j + 1) ≡ (labelled img n l j || (is_full (get_or img j 0) && same_bytes (page_end img n j) l))
  unfolding labelled
  labelled_next j = ap (labelled img n l) (add-one j)

  pub labelled_told : (k : ℕ) → labelled img n l k ≡ true → Earlier img n l k
  unfolding labelled
  labelled_told zero e = absurd (true≢false (sym e))
  labelled_told (suc k) e = go (labelled img n l k) refl (labelled_told k) e
    where
      go : (t : Bool) → labelled img n l k ≡ t → (labelled img n l k ≡ true → Earlier img n l k) → (t || (is_full (get_or img k 0) && same_bytes (page_end img n k) l)) ≡ true → Earlier img n l (suc k)
      go true p rec q = let r = rec p in record { bucket = r.bucket; before = omega (arith, r.before); full = r.full; same = r.same }
      go false p rec q =
          let b = both_hold (is_full (get_or img k 0)) (same_bytes (page_end img n k) l) q in
          record { bucket = k; before = omega arith; full = b.0; same = same_equal (page_end img n k) l b.1 }

  pub labelled_by : (k j : ℕ) → j < k → is_full (get_or img j 0) ≡ true → page_end img n j ≡ l → labelled img n l k ≡ true
  unfolding labelled
  labelled_by zero j h f s = absurd (omega arith)
  labelled_by (suc k) j h f s = go (ℕ_discrete j k) (λ (d : j < k). labelled_by k j d f s)
    where
      or_true : (a : Bool) → (a || true) ≡ true
      or_true true = refl
      or_true false = refl

      go : Dec (j ≡ k) → (j < k → labelled img n l k ≡ true) → (labelled img n l k || (is_full (get_or img k 0) && same_bytes (page_end img n k) l)) ≡ true
      go (yes e) rec =
          let a : is_full (get_or img k 0) ≡ true = ap (λ (i : ℕ). is_full (get_or img i 0)) (sym e) ∙ f in
          let b : same_bytes (page_end img n k) l ≡ true = equal_same (page_end img n k) l (ap (page_end img n) (sym e) ∙ s) in
          ap (λ (t : Bool). labelled img n l k || t) (ap₂ ◌&&◌ a b) ∙ or_true (labelled img n l k)
      go (no e) rec = ap (λ (t : Bool). t || (is_full (get_or img k 0) && same_bytes (page_end img n k) l)) (rec (omega arith))

-- a doubled bucket is full and has an earlier one
pub doubled_told : (img : List ℕ) (n b : ℕ) → doubled img n b ≡ true → (is_full (get_or img b 0) ≡ true) × Earlier img n (page_end img n b) b
doubled_told img n b e =
    let p = both_hold (is_full (get_or img b 0)) (labelled img n (page_end img n b) b) e in
    (p.0, labelled_told img n (page_end img n b) b p.1)
