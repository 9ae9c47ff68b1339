-- One old bucket moved: what the definition says by cases, and what the code's writes come to. Assumes nothing.
use mathlib.Core.Path.{◌≡◌, refl, sym, ap, ap₂, ◌∙◌}
use mathlib.Core.Bool.{Bool, true, false, cond, ◌&&◌}
use mathlib.Core.List.{List, ◌++◌}
use Prim.Native.Nat.{ℕ, zero, suc, ◌+◌, ◌<◌}
use native.Mathlib.Numerals.{add-one}
use native.Mathlib.Omega.{arith}
use lib.Dec.{eqb}
use lib.ListN.{length, get_or, set, drop, take-append-drop, length-set}
use lib.Seq.{set-append_left, length-take-le}
use borrow.Author.Tests.{eq-eqb}
use Rattle.answers.specs.Answers.{Answer, given, refused, and_then}
use Rattle.blocks.specs.Blocks.{put}
use Rattle.blocks.proofs.Laws.{put-length}
use Rattle.ht_file.specs.Places.{count_allowed, tags_length, image_length, tags_fit, image_fits, page_start, tags_of}
use Rattle.ht_file.proofs.Laws.{both_hold, image_fits_facts}
use Rattle.meta_map.specs.Tags.{full_tag, is_full}
use Rattle.probe.specs.Path.{Limit, allocating, allocate_answer}
use Rattle.probe.proofs.Allocating.{answer_below}
use Rattle.rehash.specs.Growth.{page_at, stored, zeroed, bucket_moved, grown_to, end_of, image_or}

module _ (n : ℕ) (img : List ℕ) (fits : image_fits n (length img) ≡ true) where
  pub tags_long : length (tags_of n img) ≡ tags_length n
  tags_long = let f = image_fits_facts n (length img) fits in length-take-le (tags_length n) img (omega (arith, f.2))

  -- the tag pages of an image that fits fit
  pub tags_fit_lem : tags_fit n (length (tags_of n img)) ≡ true
  tags_fit_lem = ap₂ ◌&&◌ (both_hold (count_allowed n) (eqb (length img) (image_length n)) fits).0 (eq-eqb (length (tags_of n img)) (tags_length n) tags_long)

  -- so allocation there is not refused for the table
  pub allocation_is : (limit : Limit) (h : ℕ) → allocate_answer limit (tags_of n img) n h ≡ allocating limit (tags_of n img) n h
  allocation_is limit h = rw tags_fit_lem

  pub given_below : (limit : Limit) (h b : ℕ) → allocating limit (tags_of n img) n h ≡ given b → b < n
  given_below limit h b e = (answer_below limit (tags_of n img) n h b (allocation_is limit h ∙ e)).0

  -- a tag written in the tag pages, said of the image
  pub tag_set : (b t : ℕ) → b < n → set (tags_of n img) b t ++ drop (tags_length n) img ≡ set img b t
  tag_set b t l =
      sym (set-append_left (tags_of n img) (drop (tags_length n) img) b t (omega (arith, tags_long))) ∙ ap (λ (s : List ℕ). set s b t) (take-append-drop (tags_length n) img)

module _ (limit : Limit) (old : List ℕ) (old_n new_n h b : ℕ) (img : List ℕ) where
  pub moved_other : is_full (get_or old b 0) ≡ false → bucket_moved limit old old_n new_n h b img ≡ given img
  moved_other e = rw e

  pub moved_full : is_full (get_or old b 0) ≡ true → (a : Answer ℕ) → allocating limit (tags_of new_n img) new_n h ≡ a → bucket_moved limit old old_n new_n h b img ≡ stored img new_n h (page_at old old_n b) a
  moved_full e a q = rw (e, q)

  pub moved_length : (img' : List ℕ) → bucket_moved limit old old_n new_n h b img ≡ given img' → length img' ≡ length img
  moved_length img' e = go (is_full (get_or old b 0)) (allocating limit (tags_of new_n img) new_n h) e
    where
      go : (t : Bool) (a : Answer ℕ) → cond t (stored img new_n h (page_at old old_n b) a) (given img) ≡ given img' → length img' ≡ length img
      go true (given c) q =
          let z : put (set img c (full_tag h)) (page_start new_n c) (page_at old old_n b) ≡ img' = cc in
          ap length (sym z) ∙ put-length (set img c (full_tag h)) (page_start new_n c) (page_at old old_n b) ∙ length-set img c (full_tag h)
      go true (refused m) q = let z : ◌≡◌ {A = ℕ} 0 1 = cc in absurd (omega arith)
      go false a q = let z : img ≡ img' = cc in ap length (sym z)

-- the buckets one after the other
module _ (limit : Limit) (old : List ℕ) (old_n new_n : ℕ) (hashes : List ℕ) where
  pub grown_none : grown_to limit old old_n new_n hashes 0 ≡ given (zeroed new_n)
  unfolding grown_to
  grown_none = refl

  pub grown_next : (k : ℕ) (img : List ℕ) → grown_to limit old old_n new_n hashes k ≡ given img
      → grown_to limit old old_n new_n hashes (k + 1) ≡ bucket_moved limit old old_n new_n (get_or hashes k 0) k img
  unfolding grown_to
  grown_next k img e =
      ap (grown_to limit old old_n new_n hashes) (add-one k) ∙ ap (λ (a : Answer (List ℕ)). and_then a (bucket_moved limit old old_n new_n (get_or hashes k 0) k)) e

  -- a refusal stays
  pub grown_stop : (k m d : ℕ) → grown_to limit old old_n new_n hashes k ≡ refused m → grown_to limit old old_n new_n hashes (k + d) ≡ refused m
  unfolding grown_to
  grown_stop k m zero e = let z : k + 0 ≡ k = omega arith in ap (grown_to limit old old_n new_n hashes) z ∙ e
  grown_stop k m (suc d) e =
      let z : k + suc d ≡ suc (k + d) = omega arith in
      ap (grown_to limit old old_n new_n hashes) z
      ∙ ap (λ (a : Answer (List ℕ)). and_then a (bucket_moved limit old old_n new_n (get_or hashes (k + d) 0) (k + d))) (grown_stop k m d e)

-- what an answer without its image tells
pub end_given : (x : Answer (List ℕ)) (img : List ℕ) → given (tt {0}) ≡ end_of (tt {0}) x → x ≡ given (image_or img x)
end_given (given a) img e = refl
end_given (refused m) img e = let z : ◌≡◌ {A = ℕ} 0 1 = cc in absurd (omega arith)

pub end_refused : (x : Answer (List ℕ)) (m : ℕ) → refused m ≡ end_of (tt {0}) x → x ≡ refused m
end_refused (given a) m e = let z : ◌≡◌ {A = ℕ} 0 1 = cc in absurd (omega arith)
end_refused (refused k) m e = let z : m ≡ k = cc in ap refused (sym z)
