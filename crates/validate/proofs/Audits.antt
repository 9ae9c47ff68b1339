-- The audit bucket by bucket: up to the first doubled label it is the audit of tags and paths, and there it is 21. Assumes nothing.
use mathlib.Core.Path.{◌≡◌, refl, sym, ap, ap₂, ◌∙◌}
use mathlib.Core.Bool.{Bool, true, false, cond, ◌&&◌}
use mathlib.Core.List.{List}
use Prim.Native.Nat.{ℕ, zero, suc, ◌+◌, ◌-◌, ◌≤◌, ◌<◌}
use native.Mathlib.Numerals.{add-one}
use native.Mathlib.Omega.{arith}
use lib.Dec.{eqb}
use lib.ListN.{length, get_or}
use lib.Seq.{length-take-le, get_or-take}
use borrow.Author.Tests.{eq-eqb, ne_eqb}
use Rattle.answers.specs.Answers.{Answer, given, refused, and_then}
use Rattle.ht_file.specs.Places.{count_allowed, tags_length, image_length, tags_fit, image_fits, tags_of, if_tags, if_table}
use Rattle.ht_file.proofs.Laws.{both_hold, image_fits_facts, table_unfit}
use Rattle.label_search.specs.Labels.{doubled}
use Rattle.label_search.specs.InnerSearch.{FirstDoubled}
use Rattle.meta_map.specs.Tags.{full, count_of, padding_empty}
use Rattle.meta_map.proofs.Laws.{count_agree}
use Rattle.validate.specs.Audit.{path_audit, bucket_audit, audited_to, audit_of, audit_answer}
use Rattle.validate.specs.InnerAudit.{paths_to}

module _ (img : List ℕ) (n : ℕ) (hashes : List ℕ) where
  pub paths_none : paths_to img n hashes 0 ≡ given tt
  unfolding paths_to
  paths_none = refl

  pub paths_next : (k : ℕ) → paths_to img n hashes k ≡ given tt → paths_to img n hashes (k + 1) ≡ path_audit img n (get_or hashes k 0) k
  unfolding paths_to
  paths_next k e = ap (paths_to img n hashes) (add-one k) ∙ ap (λ (a : Answer (Unit {0})). and_then a (λ _. path_audit img n (get_or hashes k 0) k)) e

  -- a refusal stays
  pub paths_stop : (k m d : ℕ) → paths_to img n hashes k ≡ refused m → paths_to img n hashes (k + d) ≡ refused m
  unfolding paths_to
  paths_stop k m zero e = let z : k + 0 ≡ k = omega arith in ap (paths_to img n hashes) z ∙ e
  paths_stop k m (suc d) e =
      let z : k + suc d ≡ suc (k + d) = omega arith in
      ap (paths_to img n hashes) z ∙ ap (λ (a : Answer (Unit {0})). and_then a (λ _. path_audit img n (get_or hashes (k + d) 0) (k + d))) (paths_stop k m d e)

  audited_stop : (k m d : ℕ) → audited_to img n hashes k ≡ refused m → audited_to img n hashes (k + d) ≡ refused m
  unfolding audited_to
  audited_stop k m zero e = let z : k + 0 ≡ k = omega arith in ap (audited_to img n hashes) z ∙ e
  audited_stop k m (suc d) e =
      let z : k + suc d ≡ suc (k + d) = omega arith in
      ap (audited_to img n hashes) z ∙ ap (λ (a : Answer (Unit {0})). and_then a (λ _. bucket_audit img n (get_or hashes (k + d) 0) (k + d))) (audited_stop k m d e)

  -- where no label is doubled
  audited_paths : (k : ℕ) → ((b : ℕ) → b < k → doubled img n b ≡ false) → audited_to img n hashes k ≡ paths_to img n hashes k
  unfolding audited_to paths_to
  audited_paths zero f = refl
  audited_paths (suc k) f =
      ap₂ (λ (a : Answer (Unit {0})) (t : Bool). and_then a (λ _. cond t (refused 21) (path_audit img n (get_or hashes k 0) k))) (audited_paths k (λ b h. f b (omega arith))) (f k (omega arith))

  audited_next : (k : ℕ) → doubled img n k ≡ true → audited_to img n hashes (k + 1) ≡ and_then (audited_to img n hashes k) (λ _. refused 21)
  unfolding audited_to
  audited_next k e = ap (audited_to img n hashes) (add-one k) ∙ ap (λ (t : Bool). and_then (audited_to img n hashes k) (λ _. cond t (refused 21) (path_audit img n (get_or hashes k 0) k))) e

  module _ (first : ℕ) (d : FirstDoubled img n first) where
    -- a bucket before it is refused
    pub audited_refused : (m : ℕ) → paths_to img n hashes first ≡ refused m → audited_to img n hashes n ≡ refused m
    audited_refused m e =
        let z : first + (n - first) ≡ n = omega (arith, d.within) in
        ap (audited_to img n hashes) (sym z) ∙ audited_stop first m (n - first) (audited_paths first d.none ∙ e)

    -- it is the first to be refused
    pub audited_twice : first < n → paths_to img n hashes first ≡ given tt → audited_to img n hashes n ≡ refused 21
    audited_twice l e =
        let z : first + 1 + (n - (first + 1)) ≡ n = omega arith in
        ap (audited_to img n hashes) (sym z)
        ∙ audited_stop (first + 1) 21 (n - (first + 1))
        (audited_next first (d.there l) ∙ ap (λ (a : Answer (Unit {0})). and_then a (λ _. refused 21)) (audited_paths first d.none ∙ e))

    -- none is
    pub audited_passed : n ≤ first → paths_to img n hashes first ≡ given tt → audited_to img n hashes n ≡ given tt
    audited_passed l e =
        let z : n ≡ first = omega (arith, d.within) in
        ap (audited_to img n hashes) z ∙ audited_paths first d.none ∙ e

-- ---- the whole audit, test by test
module _ (img : List ℕ) (n : ℕ) (hashes : List ℕ) where
  pub audit_unfit : (m : ℕ) → if_table {A = Unit {0}} (image_fits n (length img)) (given tt) ≡ refused m → refused m ≡ audit_answer img n hashes
  unfolding audit_answer
  audit_unfit m e =
      table_unfit (image_fits n (length img)) m
      (cond (eqb (length hashes) n) (cond (padding_empty (tags_of n img) n) (and_then (audited_to img n hashes n) (λ _. given (audit_of img n))) (refused 20)) (refused 2)) e

  module _ (fits : image_fits n (length img) ≡ true) where
    pub audit_hashes : (length hashes ≡ n → ⊥) → audit_answer img n hashes ≡ refused 2
    unfolding audit_answer
    audit_hashes f = rw (fits, ne_eqb (length hashes) n f)

    module _ (each : length hashes ≡ n) where
      pub audit_padding : padding_empty (tags_of n img) n ≡ false → audit_answer img n hashes ≡ refused 20
      unfolding audit_answer
      audit_padding e = rw (fits, eq-eqb (length hashes) n each, e)

      pub audit_buckets : padding_empty (tags_of n img) n ≡ true → audit_answer img n hashes ≡ and_then (audited_to img n hashes n) (λ _. given (audit_of img n))
      unfolding audit_answer
      audit_buckets e = rw (fits, eq-eqb (length hashes) n each, e)

-- ---- the tag pages of an image
module _ (n : ℕ) (img : List ℕ) (fits : image_fits n (length img) ≡ true) where
  pub tags_long : length (tags_of n img) ≡ tags_length n
  tags_long = let f = image_fits_facts n (length img) fits in length-take-le (tags_length n) img (omega (arith, f.2))

  tags_fit_lem : tags_fit n (length (tags_of n img)) ≡ true
  tags_fit_lem = ap₂ ◌&&◌ (both_hold (count_allowed n) (eqb (length img) (image_length n)) fits).0 (eq-eqb (length (tags_of n img)) (tags_length n) tags_long)

  -- a question about the tags is answered
  pub tags_asked : {A : Type 0} (x : Answer A) → if_tags (tags_of n img) n x ≡ x
  tags_asked {A} x = ap (λ (t : Bool). cond t x (refused 1)) tags_fit_lem

  -- the full tags are those of the image
  pub tags_counted : count_of full (tags_of n img) n ≡ count_of full img n
  tags_counted = count_agree full (tags_of n img) img n (λ i l. get_or-take (tags_length n) img i 0 (omega arith))
