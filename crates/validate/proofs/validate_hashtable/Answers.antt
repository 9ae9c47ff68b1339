-- By the tests in their order; bucket by bucket it is the audit of tags and paths up to the first doubled label, and 21 there. Assumes nothing.
use Rattle.std.proofs.Common.{◌≡◌, sym, ap, ap₂, ◌∙◌, arith, rules, Bool, true, List, ℕ, length, take, Float}
use Rattle.answers.specs.Answers.{Answer, given, and_then}
use Rattle.answers.specs.Refusals.{number_of}
use Rattle.answers.proofs.Laws.{given_one}
use Rattle.ht_file.specs.Places.{image_fits, start_in, tags_of, if_tags}
use Rattle.ht_file.proofs.Laws.{image_fits_facts, tags_end, table_fits}
use Rattle.label_search.proofs.Firsts.{first_told}
use Rattle.meta_map.specs.Tags.{full, count_of, padding_empty}
use Rattle.meta_map.proofs.Laws.{count-le}
use Rattle.validate.specs.Audit.{audited_to, audit_of, audit_answer, rate_of}
use Rattle.validate.proofs.Audits.{audited_refused, audited_twice, audited_passed, audit_unfit, audit_hashes, audit_padding, audit_buckets, tags_asked, tags_counted}
use Rattle.validate.proofs.validate_hashtable.Goals as goal

-- what is asked of the tags, which end where bucket 0's page starts
module _ (img : List ℕ) (n : ℕ) (hashes : List ℕ) (fits : image_fits n (length img) ≡ true) (at : ℕ) (placed : at ≡ start_in n 0) where
  asked : {A : Type 0} (f : List ℕ → Answer A) → if_tags (take at img) n (f (take at img)) ≡ f (tags_of n img)
  asked f =
      ap (λ (k : ℕ). if_tags (take k img) n (f (take k img))) (placed ∙ tags_end n (image_fits_facts n (length img) fits).1) ∙ tags_asked n img fits (f (tags_of n img))

  counted : (o : ℕ) → given o ≡ if_tags (take at img) n (given (count_of full (take at img) n)) → o ≡ count_of full img n
  counted o e =
      given_one o (count_of full (tags_of n img) n) (e ∙ asked (λ (ts : List ℕ). given (count_of full ts n))) ∙ tags_counted n img fits

  padding : (p : Bool) → given p ≡ if_tags (take at img) n (given (padding_empty (take at img) n)) → padding_empty (tags_of n img) n ≡ p
  padding p e = sym (given_one p (padding_empty (tags_of n img) n) (e ∙ asked (λ (ts : List ℕ). given (padding_empty ts n))))

  -- the padding is empty: it goes by the buckets
  by_buckets : length hashes ≡ n → (p : Bool) → given p ≡ if_tags (take at img) n (given (padding_empty (take at img) n)) → p ≡ true → audit_answer img n hashes ≡ and_then (audited_to img n hashes n) (λ _. given (audit_of img n))
  by_buckets each p e t = audit_buckets img n hashes fits each (padding p e ∙ t)

pub returns-in_err-check_image : goal.returns-in_err-check_image
returns-in_err-check_image c =
    let told = audit_unfit c.args.image.now c.args.n c.args.hashes.now (number_of c.in_err-check_image.field-0.0) (sym c.in_err-check_image.ensures) in search rules

pub returns-then-hashes-n : goal.returns-then-hashes-n
returns-then-hashes-n c = sym (audit_hashes c.args.image.now c.args.n c.args.hashes.now (table_fits _ (sym c.in_ok-check_image.ensures)) c.if-hashes-n.true)

pub returns-then-not-branch : goal.returns-then-not-branch
returns-then-not-branch c =
    let a = c.args in
    let img = a.image.now in
    let fits = table_fits (image_fits a.n (length img)) (sym c.in_ok-check_image.ensures) in
    sym (audit_padding img a.n a.hashes.now fits c.if-hashes-n.false (padding img a.n a.hashes.now fits c.page_start-tags.result c.page_start-tags.ensures c.in_ok-padding_is_empty.field-0 c.in_ok-padding_is_empty.ensures ∙ c.if-not-branch.true))

pub check_buckets-requires : goal.check_buckets-requires
check_buckets-requires c =
    let a = c.args in
    let fits = table_fits (image_fits a.n (length a.image.now)) (sym c.in_ok-check_image.ensures) in
    let within = (first_told a.image.now a.n fits c.in_ok-first.first c.in_ok-first.ensures).within in
    (fits, c.if-hashes-n.false, omega (arith, within))

pub returns-in_err-check_buckets : goal.returns-in_err-check_buckets
returns-in_err-check_buckets c =
    let a = c.args in
    let img = a.image.now in
    let hashes = a.hashes.now in
    let fits = table_fits (image_fits a.n (length img)) (sym c.in_ok-check_image.ensures) in
    let e = audited_refused img a.n hashes c.in_ok-first.first (first_told img a.n fits c.in_ok-first.first c.in_ok-first.ensures) (number_of c.in_err-check_buckets.field-0.0) (sym c.in_err-check_buckets.ensures) in
    let told = sym (by_buckets img a.n hashes fits c.page_start-tags.result c.page_start-tags.ensures c.if-hashes-n.false c.in_ok-padding_is_empty.field-0 c.in_ok-padding_is_empty.ensures c.if-not-branch.false
    ∙ ap (λ (x : Answer (Unit {0})). and_then x (λ _. given (audit_of img a.n))) e) in
    search rules

pub returns-then-first-n : goal.returns-then-first-n
returns-then-first-n c =
    let a = c.args in
    let img = a.image.now in
    let hashes = a.hashes.now in
    let fits = table_fits (image_fits a.n (length img)) (sym c.in_ok-check_image.ensures) in
    let e = audited_twice img a.n hashes c.in_ok-first.first (first_told img a.n fits c.in_ok-first.first c.in_ok-first.ensures) c.if-first-n.true (sym c.in_ok-check_buckets.ensures) in
    sym (by_buckets img a.n hashes fits c.page_start-tags.result c.page_start-tags.ensures c.if-hashes-n.false c.in_ok-padding_is_empty.field-0 c.in_ok-padding_is_empty.ensures c.if-not-branch.false
    ∙ ap (λ (x : Answer (Unit {0})). and_then x (λ _. given (audit_of img a.n))) e)

pub overflow_cast-occupied : goal.overflow_cast-occupied
overflow_cast-occupied c =
    let a = c.args in
    let img = a.image.now in
    let fits = table_fits (image_fits a.n (length img)) (sym c.in_ok-check_image.ensures) in
    omega (arith, counted img a.n a.hashes.now fits c.page_start-tags.result c.page_start-tags.ensures c.in_ok-occupied.occupied c.in_ok-occupied.ensures, count-le full img a.n, image_fits_facts a.n (length img) fits)

pub returns : goal.returns
returns c =
    let a = c.args in
    let img = a.image.now in
    let hashes = a.hashes.now in
    let fits = table_fits (image_fits a.n (length img)) (sym c.in_ok-check_image.ensures) in
    let e = audited_passed img a.n hashes c.in_ok-first.first (first_told img a.n fits c.in_ok-first.first c.in_ok-first.ensures) c.if-first-n.false (sym c.in_ok-check_buckets.ensures) in
    let o = counted img a.n hashes fits c.page_start-tags.result c.page_start-tags.ensures c.in_ok-occupied.occupied c.in_ok-occupied.ensures in
    ap₂ (λ (x : ℕ) (r : Float). given (record { capacity = a.n; occupied = x; rate = r })) o (c.occupancy_rate-rate.ensures ∙ ap (λ (x : ℕ). rate_of x a.n) o)
    ∙ sym (by_buckets img a.n hashes fits c.page_start-tags.result c.page_start-tags.ensures c.if-hashes-n.false c.in_ok-padding_is_empty.field-0 c.in_ok-padding_is_empty.ensures c.if-not-branch.false
    ∙ ap (λ (x : Answer (Unit {0})). and_then x (λ _. given (audit_of img a.n))) e)
