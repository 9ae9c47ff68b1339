-- The tag is written among the tag pages, so in the image, and then the page is put. Assumes nothing.
use Rattle.std.proofs.Common.{◌≡◌, sym, ap, ap₂, ◌∙◌, arith, true, List, ◌++◌, ℕ, ◌<◌, length, take, drop, set}
use lib.ListN.{length-set}
use Rattle.answers.specs.Answers.{Answer, given}
use Rattle.blocks.specs.Blocks.{block, put}
use Rattle.ht_file.specs.Places.{tags_length, tags_of, image_fits, page_start, start_in}
use Rattle.ht_file.proofs.Laws.{image_fits_facts, start_is, tags_end}
use Rattle.meta_map.specs.Tags.{full_tag}
use Rattle.probe.specs.Path.{Limit, hit_limit, allocating, allocate_answer, allocated_tags, tags_after}
use Rattle.rehash.specs.Growth.{end_of, image_or}
use Rattle.rehash.proofs.Moves.{allocation_is, given_below, tag_set, moved_full}
use Rattle.rehash.proofs.move_bucket.Goals as goal

-- the tag pages were lent to allocation, which gave bucket b: the image then has its tag
module _ (n h : ℕ) (img : List ℕ) (fits : image_fits n (length img) ≡ true) (at : ℕ) (placed : at ≡ start_in n 0) (limit : Limit) (limited : limit ≡ hit_limit) (b : ℕ) (answered : given b ≡ allocate_answer limit (take at img) n h) where
  tags-at : at ≡ tags_length n
  tags-at = placed ∙ tags_end n (image_fits_facts n (length img) fits).1

  is-answered : allocate_answer limit (take at img) n h ≡ allocating hit_limit (tags_of n img) n h
  is-answered = ap₂ (λ (l : Limit) (t : ℕ). allocate_answer l (take t img) n h) limited tags-at ∙ allocation_is n img fits hit_limit h

  gave : allocating hit_limit (tags_of n img) n h ≡ given b
  gave = sym is-answered ∙ sym answered

  below : b < n
  below = given_below n img fits hit_limit h b gave

  tagged : (tags : List ℕ) → tags ≡ allocated_tags limit (take at img) n h → tags ++ drop at img ≡ set img b (full_tag h)
  tagged tags e =
      ap₂ (λ (l : List ℕ) (t : ℕ). l ++ drop t img)
      (e ∙ ap₂ (λ (x : Answer ℕ) (t : ℕ). tags_after x (take t img) h) (is-answered ∙ gave) tags-at) tags-at
      ∙ tag_set n img fits b (full_tag h) below

pub copy_page-requires : goal.copy_page-requires
copy_page-requires c =
    let a = c.args in
    let img = a.new_image.now in
    let b = c.in_ok-bucket.bucket in
    let at = c.page_start-tags.result in
    let new = image_fits_facts a.new_n (length img) c.requires.2 in
    let old = image_fits_facts a.old_n (length a.old_image.now) c.requires.0 in
    let less = below a.new_n a.hash img c.requires.2 at c.page_start-tags.ensures c.hit_limit-limit.result c.hit_limit-limit.ensures b c.in_ok-bucket.ensures.0 in
    let is = tagged a.new_n a.hash img c.requires.2 at c.page_start-tags.ensures c.hit_limit-limit.result c.hit_limit-limit.ensures b c.in_ok-bucket.ensures.0 c.allocate_bucket.new.tags c.in_ok-bucket.ensures.1 in
    let to = c.page_start-at.ensures ∙ start_is a.new_n b new.1 (omega arith) in
    let from = c.page_start-from.ensures ∙ start_is a.old_n a.b old.1 (omega arith) in
    (omega (arith, to, less, new, ap length is, length-set img b (full_tag a.hash)), omega (arith, from, old, c.requires.1))

pub returns-in_ok-bucket : goal.returns-in_ok-bucket
returns-in_ok-bucket c =
    let a = c.args in
    let img = a.new_image.now in
    let b = c.in_ok-bucket.bucket in
    let at = c.page_start-tags.result in
    let new = image_fits_facts a.new_n (length img) c.requires.2 in
    let old = image_fits_facts a.old_n (length a.old_image.now) c.requires.0 in
    let less = below a.new_n a.hash img c.requires.2 at c.page_start-tags.ensures c.hit_limit-limit.result c.hit_limit-limit.ensures b c.in_ok-bucket.ensures.0 in
    let gives = gave a.new_n a.hash img c.requires.2 at c.page_start-tags.ensures c.hit_limit-limit.result c.hit_limit-limit.ensures b c.in_ok-bucket.ensures.0 in
    let is = tagged a.new_n a.hash img c.requires.2 at c.page_start-tags.ensures c.hit_limit-limit.result c.hit_limit-limit.ensures b c.in_ok-bucket.ensures.0 c.allocate_bucket.new.tags c.in_ok-bucket.ensures.1 in
    let to : c.page_start-at.result ≡ page_start a.new_n b = c.page_start-at.ensures ∙ start_is a.new_n b new.1 (omega arith) in
    let from : c.page_start-from.result ≡ page_start a.old_n a.b = c.page_start-from.ensures ∙ start_is a.old_n a.b old.1 (omega arith) in
    let e = moved_full hit_limit a.old_image.now a.old_n a.new_n a.hash a.b img (sym c.if-is_full.ensures) (given b) gives in (
      sym (ap (end_of tt) e),
      c.copy_page.ensures
          ∙ ap₂ (λ (l : List ℕ) (p : ℕ × ℕ). put l p.0 (block 4096 a.old_image.now p.1)) is (ap₂ (λ (x y : ℕ). (x, y)) to from)
          ∙ sym (ap (image_or img) e),
    )
