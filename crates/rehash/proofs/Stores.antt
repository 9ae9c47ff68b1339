-- A page stored in a bucket of an image: the tags and pages afterwards. Assumes nothing.
use mathlib.Core.Path.{◌≡◌, refl, sym, ap, ap₂, ◌∙◌}
use mathlib.Core.Bool.{true, false, true≢false, ◌||◌}
use mathlib.Core.List.{List}
use mathlib.Core.Logic.{◌⊎◌, inl, inr}
use Prim.Native.Nat.{ℕ, zero, suc, ◌+◌, ◌≤◌, ◌<◌}
use native.Mathlib.Decide.{dec_lt}
use native.Mathlib.Omega.{arith}
use lib.ListN.{length, get_or, set, take, drop, replicate, length-set, length-drop, length-replicate, get_or-replicate}
use lib.Seq.{get_or-set_same, get_or-set_other, get_or-take, get_or-drop, length-take-le, ext_get_or}
use Rattle.blocks.specs.Blocks.{put}
use Rattle.blocks.proofs.Laws.{put-length, put_left, block-length, block-get_or, block_same, block-put_sized, block-put_apart}
use Rattle.ht_file.specs.Places.{tags_length, image_length, page_start, tags_of}
use Rattle.meta_map.specs.Tags.{Kind, empty, tombstone, full, other, kind_of, is_kind, full_tag, one, count_of, is_full}
use Rattle.meta_map.proofs.Laws.{full_tag_kind, full_tag_not_empty, full_tag_not_tombstone, count_agree, count_set}
use Rattle.probe.specs.Path.{is_free, page_end}
use Rattle.probe.proofs.Tests.{free_not}
use Rattle.rehash.specs.Growth.{page_at, zeroed}

-- a full tag is full and not free
pub full_tag_full : (h : ℕ) → is_full (full_tag h) ≡ true
full_tag_full h = ap (is_kind full) (full_tag_kind h)

pub full_not_free : (h : ℕ) → is_free (full_tag h) ≡ false
full_not_free h = free_not (full_tag h) (full_tag_not_empty h) (full_tag_not_tombstone h)

-- a free tag is not full
pub free_not_full : (t : ℕ) → is_free t ≡ true → is_full t ≡ false
free_not_full t e = go (kind_of t) e
  where
    go : (k : Kind) → (is_kind empty k || is_kind tombstone k) ≡ true → is_kind full k ≡ false
    go empty q = refl
    go tombstone q = refl
    go full q = absurd (true≢false (sym q))
    go other q = refl

-- the last 32 bytes of a page, from its bytes
pub page_ends : (img : List ℕ) (n b : ℕ) → page_start n b + 4096 ≤ length img → page_end img n b ≡ take 32 (drop 4064 (page_at img n b))
page_ends img n b l =
    let a = page_start n b in
    let page = page_at img n b in
    let long : length page ≡ 4096 = block-length 4096 img a in
    let left : length (take 32 (drop (a + 4064) img)) ≡ 32 = length-take-le 32 (drop (a + 4064) img) (omega (arith, length-drop (a + 4064) img)) in
    let right : length (take 32 (drop 4064 page)) ≡ 32 = length-take-le 32 (drop 4064 page) (omega (arith, length-drop 4064 page)) in
    ext_get_or 0 (take 32 (drop (a + 4064) img)) (take 32 (drop 4064 page)) (left ∙ sym right) (λ i h.
    let s : i < 32 = omega arith in
    let e : a + 4064 + i ≡ a + (4064 + i) = omega arith in
    get_or-take 32 (drop (a + 4064) img) i 0 s ∙ get_or-drop (a + 4064) img i 0 ∙ ap (λ (j : ℕ). get_or img j 0) e
    ∙ sym (get_or-take 32 (drop 4064 page) i 0 s ∙ get_or-drop 4064 page i 0 ∙ block-get_or 4096 img a (4064 + i) l (omega arith)))

-- in the tag pages an image's bytes are the tags
pub tag_of : (n : ℕ) (img : List ℕ) (i : ℕ) → i < n → get_or (tags_of n img) i 0 ≡ get_or img i 0
tag_of n img i l = get_or-take (tags_length n) img i 0 (omega arith)

module _ (n : ℕ) (img : List ℕ) (long : length img ≡ image_length n) (c h : ℕ) (below : c < n) (page : List ℕ) (size : length page ≡ 4096) where
  abbrev tagged : List ℕ
  tagged = set img c (full_tag h)

  abbrev after : List ℕ
  after = put (set img c (full_tag h)) (page_start n c) page

  tagged_long : length (set img c (full_tag h)) ≡ length img
  tagged_long = length-set img c (full_tag h)

  pub store_long : length (put (set img c (full_tag h)) (page_start n c) page) ≡ length img
  store_long = put-length (set img c (full_tag h)) (page_start n c) page ∙ tagged_long

  -- tags: the bucket's is the hash's, every other byte of the tag pages stays
  pub store_tag : get_or (put (set img c (full_tag h)) (page_start n c) page) c 0 ≡ full_tag h
  store_tag = put_left (set img c (full_tag h)) (page_start n c) page c (omega arith) ∙ get_or-set_same img c (full_tag h) 0 (omega (arith, long))

  pub store_tag_other : (i : ℕ) → i < tags_length n → (i ≡ c → ⊥) → get_or (put (set img c (full_tag h)) (page_start n c) page) i 0 ≡ get_or img i 0
  store_tag_other i l f = put_left (set img c (full_tag h)) (page_start n c) page i (omega arith) ∙ get_or-set_other img c i (full_tag h) 0 f

  -- pages: the bucket's is the page, every other stays
  pub store_page : page_at (put (set img c (full_tag h)) (page_start n c) page) n c ≡ page
  store_page = block-put_sized 4096 (set img c (full_tag h)) (page_start n c) page size (omega (arith, tagged_long, long))

  pub store_page_other : (d : ℕ) → (d ≡ c → ⊥) → page_at (put (set img c (full_tag h)) (page_start n c) page) n d ≡ page_at img n d
  store_page_other d f =
      block-put_apart 4096 (set img c (full_tag h)) (page_start n c) page (page_start n d) (apart (dec_lt d c))
      ∙ block_same 4096 (set img c (full_tag h)) img (page_start n d) tagged_long (λ i l. get_or-set_other img c (page_start n d + i) (full_tag h) 0 (λ e. omega arith))
    where
      apart : Dec (d < c) → (page_start n d + 4096 ≤ page_start n c) ⊎ (page_start n c + length page ≤ page_start n d)
      apart (yes p) = inl (omega arith)
      apart (no p) = inr (omega (arith, size, p, f))

  -- one full bucket more, where the tag was not full
  pub store_count : is_full (get_or img c 0) ≡ false → count_of full (put (set img c (full_tag h)) (page_start n c) page) n ≡ count_of full img n + 1
  store_count e =
      count_agree full (put (set img c (full_tag h)) (page_start n c) page) (set img c (full_tag h)) n (λ i l. put_left (set img c (full_tag h)) (page_start n c) page i (omega arith))
      ∙ omega (arith, count_set full img c (full_tag h) n below (omega (arith, long)), ap one e, ap one (full_tag_full h))

-- a zeroed image
pub zero_at : (n i : ℕ) → i < image_length n → get_or (zeroed n) i 0 ≡ 0
zero_at n i l = get_or-replicate (image_length n) i 0 0 l

pub zero_page : (n c : ℕ) → c < n → page_at (zeroed n) n c ≡ replicate 4096 0
zero_page n c l =
    let long : length (zeroed n) ≡ image_length n = length-replicate (image_length n) 0 in
    ext_get_or 0 (page_at (zeroed n) n c) (replicate 4096 0) (block-length 4096 (zeroed n) (page_start n c) ∙ sym (length-replicate {A = ℕ} 4096 0)) (λ i h.
    let s : i < 4096 = omega (arith, block-length 4096 (zeroed n) (page_start n c)) in
    block-get_or 4096 (zeroed n) (page_start n c) i (omega arith) s ∙ zero_at n (page_start n c + i) (omega arith) ∙ sym (get_or-replicate 4096 i 0 0 s))

-- no tag is full where all are 0
pub none_full : (ts : List ℕ) (n : ℕ) → ((i : ℕ) → i < n → get_or ts i 0 ≡ 0) → count_of full ts n ≡ 0
unfolding count_of
none_full ts zero h = refl
none_full ts (suc n) h = ap₂ (λ (a t : ℕ). a + one (is_kind full (kind_of t))) (none_full ts n (λ i l. h i (omega arith))) (h n (omega arith))
