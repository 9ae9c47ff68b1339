-- By cases on what stands at the position: each write is a put at a named place, and together they are the definition's image. Assumes nothing.
use Rattle.std.proofs.Common.{rules, arith, ◌≡◌, ◌+◌, ◌-◌, ◌*◌, ◌≤◌, ◌<◌, ℕ, List, [], ◌∷◌, cond, length, get_or, take, drop, refl, sym, ap, ap₂, ◌∙◌, subst}
use lib.ListN.{set, length-set}
use borrow.Rule.Slice.PartMut.{put_mid, mid_len}
use Rattle.answers.specs.Answers.{given}
use Rattle.answers.specs.Refusals.{number_of}
use Rattle.blocks.specs.Blocks.{block}
use Rattle.blocks.proofs.Laws.{tabulate-length}
use Rattle.ht_file.specs.Places.{image_length, page_start}
use Rattle.ht_file.proofs.Laws.{image_fits_facts, start_is}
use Rattle.meta_map.specs.Tags.{full_tag}
use Rattle.page_diff.specs.Diff.{count_of, reserved}
use Rattle.wal.specs.Log.{Entry, clear, mark_size}
use Rattle.wal.specs.Reader.{diff_at, nodes_from, update_of}
use Rattle.wal_read.proofs.ReadLaws.{There}
use Rattle.recover.specs.Places.{page_named, page_gives, page_after, stepped}
use Rattle.recover.specs.Replay.{bucket_of}
use Rattle.recover.specs.InnerPage.{page_by}
use Rattle.recover.proofs.Checks.{there_bucket, there_entry, updated_there, clear_read, update_read, end_read, is_end}
use Rattle.recover.proofs.Parts.{part-put, set-put}
use Rattle.recover.proofs.Steps.{step_outside, step_taken, step_end, step_refused, clear_image, update_image}
use Rattle.recover.proofs.apply_at.Goals as goal
use Rattle.recover.proofs.apply_at.Goals.{In-Update, After-write_tag-2, After-page_start-a}

-- the head is an update: so stands an update there, all of it
there : (c : In-Update) → There c.args.rule c.args.edition c.args.log.now c.args.at c.in-Update.bucket c.in-Update.count c.in-Update.next
there c = update_read c.args.rule c.args.edition c.args.edition c.args.log.now c.args.at c.in_ok-head.head c.in_ok-head.ensures refl c.in-Update.bucket c.in-Update.count c.in-Update.next c.in-Update.is

pub returns-in_err-head : goal.returns-in_err-head
returns-in_err-head c =
    let a = c.args in
    let k : ℕ = number_of c.in_err-head.field-0.0 in
    let e = step_refused a.rule a.n a.image.now a.edition a.log.now a.at a.hash c.requires k c.in_err-head.ensures in
    search rules

pub returns-then-n-bucket : goal.returns-then-n-bucket
returns-then-n-bucket c =
    let a = c.args in
    let r = clear_read a.rule a.edition a.edition a.log.now a.at c.in_ok-head.head c.in_ok-head.ensures refl _ _ c.in-Clear.is in
    step_outside a.rule a.n a.image.now a.edition a.log.now a.at a.hash c.requires (clear c.in-Clear.bucket) c.in-Clear.next r c.if-n-bucket.true

pub returns-then-n-bucket-2 : goal.returns-then-n-bucket-2
returns-then-n-bucket-2 c =
    let a = c.args in
    let t = there (goal.at.returns-then-n-bucket-2 c).In-Update in
    step_outside a.rule a.n a.image.now a.edition a.log.now a.at a.hash c.requires (update_of a.log.now (a.at + mark_size a.edition)) c.in-Update.next t.here
    (subst (λ (b : ℕ). a.n ≤ b) (sym (there_bucket a.rule a.edition a.log.now a.at _ _ _ t)) c.if-n-bucket-2.true)

pub overflow_mul-body : goal.overflow_mul-body
overflow_mul-body c = let t = there (goal.at.overflow_mul-body c).In-Update in omega (arith, t.few)

pub overflow_add-body : goal.overflow_add-body
overflow_add-body c = let t = there (goal.at.overflow_add-body c).In-Update in omega (arith, t.few)

pub overflow_sub-body : goal.overflow_sub-body
overflow_sub-body c = let t = there (goal.at.overflow_sub-body c).In-Update in omega (arith, t.after)

-- it is inside the table, and so is its page; the tag is written
module _ (c : After-page_start-a) where
  abbrev image : List ℕ
  image = c.args.image.now

  abbrev b : ℕ
  b = c.in-Update.bucket

  abbrev start : ℕ
  start = page_start c.args.n c.in-Update.bucket

  abbrev tag_set : List ℕ
  tag_set = set c.args.image.now c.in-Update.bucket (full_tag c.args.hash)

  abbrev first : List ℕ
  first = put_mid c.in-Update.bucket (c.in-Update.bucket + 1 - c.in-Update.bucket) c.args.image.now c.write_tag-2.new.part

  bounds : (1 ≤ c.args.n) × (c.args.n ≤ 1048576) × (length c.args.image.now ≡ image_length c.args.n)
  bounds = image_fits_facts c.args.n (length c.args.image.now) c.requires

  inside : c.in-Update.bucket < c.args.n
  inside = c.if-n-bucket-2.false

  here : c.in-Update.bucket < length c.args.image.now
  here = omega (arith, bounds.2, inside)

  page-fits : page_start c.args.n c.in-Update.bucket + 4096 ≤ length c.args.image.now
  page-fits = omega (arith, bounds.2, inside)

  tagged : put_mid c.in-Update.bucket (c.in-Update.bucket + 1 - c.in-Update.bucket) c.args.image.now c.write_tag-2.new.part ≡ set c.args.image.now c.in-Update.bucket (full_tag c.args.hash)
  tagged =
      ap (put_mid b (b + 1 - b) image) (c.write_tag-2.ensures ∙ ap (λ (v : ℕ). v ∷ []) c.full_entry.ensures)
      ∙ part-put b (b + 1) image (full_tag c.args.hash ∷ []) (omega arith) (omega (arith, here)) (omega arith)
      ∙ set-put image b (full_tag c.args.hash) here

  tagged_long : length (put_mid c.in-Update.bucket (c.in-Update.bucket + 1 - c.in-Update.bucket) c.args.image.now c.write_tag-2.new.part) ≡ length c.args.image.now
  tagged_long = ap length tagged ∙ length-set image b (full_tag c.args.hash)

  start-here : c.page_start-a.result ≡ page_start c.args.n c.in-Update.bucket
  start-here = c.page_start-a.ensures ∙ start_is c.args.n b bounds.1 (omega (arith, inside))

  stands : There c.args.rule c.args.edition c.args.log.now c.args.at c.in-Update.bucket c.in-Update.count c.in-Update.next
  stands = there (goal.at.overflow_mul-body c).In-Update

  -- where its body stands
  body_is : c.in-Update.next - (64 + 32 * c.in-Update.count) ≡ c.args.at + mark_size c.args.edition
  body_is = omega (arith, stands.after)

pub apply_page-requires : goal.apply_page-requires
apply_page-requires c =
    let k = (goal.at.apply_page-requires c).After-page_start-a in
    let t = stands k in
    let log : List ℕ = c.args.log.now in
    let a : ℕ = c.page_start-a.result in
    let same : a + 4096 - a ≡ 4096 = omega arith in (
      mid_len a (a + 4096) (first k) (omega (arith, start-here k, page-fits k, tagged_long k)) ∙ same,
      ap (λ (p : ℕ). reserved (diff_at log p)) (body_is k) ∙ t.plain,
      t.count ∙ sym (ap (λ (p : ℕ). count_of (diff_at log p)) (body_is k)),
      omega (arith, t.within, body_is k),
    )

pub returns-in-Clear : goal.returns-in-Clear
returns-in-Clear c =
    let a = c.args in
    let b : ℕ = c.in-Clear.bucket in
    let image : List ℕ = a.image.now in
    let r = clear_read a.rule a.edition a.edition a.log.now a.at c.in_ok-head.head c.in_ok-head.ensures refl _ _ c.in-Clear.is in
    let f = image_fits_facts a.n (length image) c.requires in
    let inside : b < length image = omega (arith, f.2, c.if-n-bucket.false) in
    let taken = step_taken a.rule a.n image a.edition a.log.now a.at a.hash c.requires (clear b) c.in-Clear.next r c.if-n-bucket.false in (
      taken.0,
      ap (put_mid b (b + 1 - b) image) c.write_tag.ensures
          ∙ part-put b (b + 1) image (0x7F ∷ []) (omega arith) (omega arith) (omega arith)
          ∙ set-put image b 0x7F inside ∙ clear_image a.n b a.hash image inside ∙ taken.1,
    )

pub returns : goal.returns
returns c =
    let k = (goal.at.returns c).After-page_start-a in
    let t = stands k in
    let args = c.args in
    let log : List ℕ = args.log.now in
    let p : ℕ = args.at + mark_size args.edition in
    let m : ℕ = c.in-Update.count in
    let a : ℕ = start k in
    let id = block 32 log p in
    let ws = diff_at log p in
    let ns = nodes_from log (p + 48) m in
    let el = block 8 log (p + 48 + 32 * m) in
    let page : List ℕ = take 4096 (drop a (tag_set k)) in
    let within : bucket_of (update_of log p) < args.n = subst (λ (x : ℕ). x < args.n) (sym (there_bucket args.rule args.edition log args.at (b k) m c.in-Update.next t)) (inside k) in
    let taken = step_taken args.rule args.n args.image.now args.edition log args.at args.hash c.requires (update_of log p) c.in-Update.next t.here within in
    let size : a + 4096 - a ≡ 4096 = omega arith in
    let was : take (c.page_start-a.result + 4096 - c.page_start-a.result) (drop c.page_start-a.result (first k)) ≡ page =
    ap (λ (x : ℕ). take (x + 4096 - x) (drop x (first k))) (start-here k) ∙ ap₂ (λ (x : ℕ) (l : List ℕ). take x (drop a l)) size (tagged k) in
    let made : c.apply_page.new.page ≡ page_after id ws ns el page = c.apply_page.ensures ∙ ap₂ (λ (q : ℕ) (l : List ℕ). page_by log q m l) (body_is k) was in (
      ap given (updated_there args.edition log args.at c.in-Update.next) ∙ taken.0,
      ap (λ (x : ℕ). put_mid x (x + 4096 - x) (first k) c.apply_page.new.page) (start-here k)
          ∙ ap₂ (λ (l q : List ℕ). put_mid a (a + 4096 - a) l q) (tagged k) made
          ∙ part-put a (a + 4096) (tag_set k) (page_after id ws ns el page) (omega arith) (omega (arith, page-fits k, length-set (image k) (b k) (full_tag args.hash)))
          (tabulate-length (λ o. cond (page_named ws o) (page_gives id ws ns el o) (get_or page o 0)) 4096 ∙ sym size)
          ∙ update_image args.n id ws ns el (b k) args.hash args.image.now (bounds k).2 (inside k)
          ∙ ap (λ (x : Entry). stepped args.n (record { entry = x; hash = args.hash }) args.image.now) (sym (there_entry args.rule args.edition log args.at (b k) m c.in-Update.next t)) ∙ taken.1,
    )

pub returns-in_default-head : goal.returns-in_default-head
returns-in_default-head c =
    let a = c.args in
    step_end a.rule a.n a.image.now a.edition a.log.now a.at a.hash c.requires
    (end_read a.rule a.edition a.edition a.log.now a.at c.in_ok-head.head c.in_ok-head.ensures refl (is_end c.in_ok-head.head c.in_default.not-Clear c.in_default-head.not-Update))
