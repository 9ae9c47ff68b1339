-- What an audit that passes is worth: every stored page, looked up by its lent hash and its label, is found in its own bucket. Assumes nothing.
use mathlib.Core.Path.{◌≡◌, refl, sym, ap, ap₂, ◌∙◌, subst}
use mathlib.Core.Bool.{Bool, true, false, true≢false, cond, ◌&&◌}
use mathlib.Core.List.{List}
use Prim.Native.Nat.{ℕ, zero, suc, ◌*◌, ◌≤◌, ◌<◌}
use native.Mathlib.Decide.{ℕ_discrete, dec_lt}
use native.Mathlib.Omega.{arith}
use lib.Dec.{eqb}
use lib.ListN.{length, get_or}
use borrow.Author.Tests.{eqb-true}
use Rattle.answers.specs.Answers.{Answer, given, refused, and_then}
use Rattle.answers.proofs.Laws.{given_one, given_refused}
use Rattle.ht_file.specs.Places.{image_fits, tags_of}
use Rattle.ht_file.proofs.Laws.{image_fits_facts}
use Rattle.label_search.specs.Labels.{doubled}
use Rattle.label_search.proofs.Labels.{labelled_by}
use Rattle.meta_map.specs.Tags.{full, is_kind, full_tag, count_of, padding_empty, is_full}
use Rattle.meta_map.proofs.Laws.{full_tag_kind}
use Rattle.probe.specs.Path.{visit, page_end, found_at, lookup_answer}
use Rattle.probe.proofs.Visits.{visit_below}
use Rattle.probe.proofs.Promises.{HasPage, found_by}
use Rattle.validate.specs.declared.Audit.{Audit}
use Rattle.validate.specs.Audit.{reaching, bucket_audit, audited_to, rate_of, audit_of, audit_answer}
use Rattle.validate.proofs.Reaches.{reached_told}

-- a full bucket that passed: no earlier full one has its label, its tag is the hash's, and its path leads to it
pub record Sound (img : List ℕ) (n h b : ℕ) : Type 0 where
  pub own_label : (d : ℕ) → d < b → is_full (get_or img d 0) ≡ true → page_end img n d ≡ page_end img n b → ⊥
  pub right_tag : get_or img b 0 ≡ full_tag h
  pub reached : reaching img n h b ≡ given tt

bucket_sound : (img : List ℕ) (n h b : ℕ) → is_full (get_or img b 0) ≡ true → bucket_audit img n h b ≡ given tt → Sound img n h b
bucket_sound img n h b f e = go (doubled img n b) refl (eqb (get_or img b 0) (full_tag h)) refl (sym (ap (λ (t : Bool). cond (doubled img n b) (refused 21) (cond t (cond (eqb (get_or img b 0) (full_tag h)) (reaching img n h b) (refused 22)) (given tt))) f) ∙ e)
  where
    go : (d : Bool) → doubled img n b ≡ d → (t : Bool) → eqb (get_or img b 0) (full_tag h) ≡ t → cond d (refused 21) (cond t (reaching img n h b) (refused 22)) ≡ given tt → Sound img n h b
    go true p t q r = let z : ◌≡◌ {A = ℕ} 0 1 = cc in absurd (omega arith)
    go false p false q r = let z : ◌≡◌ {A = ℕ} 0 1 = cc in absurd (omega arith)
    go false p true q r =
        record {
          own_label = λ d l g s. true≢false (sym (ap₂ ◌&&◌ f (labelled_by img n (page_end img n b) b d l g s)) ∙ p);
          right_tag = eqb-true (get_or img b 0) (full_tag h) q;
          reached = r;
        }

-- every bucket of an audit that passed has passed
all_passed : (img : List ℕ) (n : ℕ) (hashes : List ℕ) (k : ℕ) → audited_to img n hashes k ≡ given tt → (b : ℕ) → b < k → bucket_audit img n (get_or hashes b 0) b ≡ given tt
unfolding audited_to
all_passed img n hashes zero e b l = absurd (omega arith)
all_passed img n hashes (suc k) e b l = go (audited_to img n hashes k) refl e (all_passed img n hashes k) (ℕ_discrete b k)
  where
    go : (a : Answer (Unit {0})) → audited_to img n hashes k ≡ a → and_then a (λ _. bucket_audit img n (get_or hashes k 0) k) ≡ given tt
        → (audited_to img n hashes k ≡ given tt → (i : ℕ) → i < k → bucket_audit img n (get_or hashes i 0) i ≡ given tt) → Dec (b ≡ k) → bucket_audit img n (get_or hashes b 0) b ≡ given tt
    go (given tt) p q rec (yes z) = ap (λ (i : ℕ). bucket_audit img n (get_or hashes i 0) i) z ∙ q
    go (given tt) p q rec (no z) = rec p b (omega arith)
    go (refused m) p q rec z = let y : ◌≡◌ {A = ℕ} 0 1 = cc in absurd (omega arith)

module _ (img : List ℕ) (n : ℕ) (hashes : List ℕ) (a : Audit) (passed : audit_answer img n hashes ≡ given a) where
  -- the table fits, there is a hash for each bucket, all passed, and the answer is the definition's
  pub record Passes : Type 0 where
    pub fits : image_fits n (length img) ≡ true
    pub a_hash_each : length hashes ≡ n
    pub padding : padding_empty (tags_of n img) n ≡ true
    pub all : audited_to img n hashes n ≡ given tt
    pub answer : a ≡ audit_of img n

  pub audit_passes : Passes
  unfolding audit_answer
  audit_passes = go (image_fits n (length img)) refl (eqb (length hashes) n) refl (padding_empty (tags_of n img) n) refl (audited_to img n hashes n) refl passed
    where
      go : (f : Bool) → image_fits n (length img) ≡ f → (h : Bool) → eqb (length hashes) n ≡ h → (p : Bool) → padding_empty (tags_of n img) n ≡ p → (x : Answer (Unit {0})) → audited_to img n hashes n ≡ x
          → cond f (cond h (cond p (and_then x (λ _. given (audit_of img n))) (refused 20)) (refused 2)) (refused 1) ≡ given a → Passes
      go false q h r p s x t e = absurd (given_refused a 1 (sym e))
      go true q false r p s x t e = absurd (given_refused a 2 (sym e))
      go true q true r false s x t e = absurd (given_refused a 20 (sym e))
      go true q true r true s (refused m) t e = absurd (given_refused a m (sym e))
      go true q true r true s (given tt) t e =
          record { fits = q; a_hash_each = eqb-true (length hashes) n r; padding = s; all = t; answer = sym (given_one (audit_of img n) a e) }

  -- "occupied [..] the number of full tags"; the rate is the two counts as f64, divided once
  pub audit_counts : (a.capacity ≡ n) × (a.occupied ≡ count_of full img n) × (a.rate ≡ rate_of (count_of full img n) n)
  audit_counts =
      let e = audit_passes.answer in
      (ap (λ (x : Audit). x.capacity) e, ap (λ (x : Audit). x.occupied) e, ap (λ (x : Audit). x.rate) e)

  pub audit_sound : (b : ℕ) → b < n → is_full (get_or img b 0) ≡ true → Sound img n (get_or hashes b 0) b
  audit_sound b l f = bucket_sound img n (get_or hashes b 0) b f (all_passed img n hashes n audit_passes.all b l)

  -- no two full buckets have one label
  pub audit_labels : (b d : ℕ) → b < n → d < n → is_full (get_or img b 0) ≡ true → is_full (get_or img d 0) ≡ true → page_end img n b ≡ page_end img n d → b ≡ d
  audit_labels b d l m f g e = go (dec_lt b d) (dec_lt d b)
    where
      go : Dec (b < d) → Dec (d < b) → b ≡ d
      go (yes p) q = absurd ((audit_sound d m g).own_label b p f e)
      go (no p) (yes q) = absurd ((audit_sound b l f).own_label d q g (sym e))
      go (no p) (no q) = omega arith

  -- every stored page is found in its own bucket
  pub audit_found : (b : ℕ) → b < n → is_full (get_or img b 0) ≡ true → lookup_answer img n (get_or hashes b 0) (page_end img n b) ≡ given (found_at b)
  audit_found b l f = go (found_by img n h id way.0 audit_passes.fits way.1 (subst (HasPage img n h id) (sym way.2) ((audit_sound b l f).right_tag, refl)) way.3)
    where
      h : ℕ
      h = get_or hashes b 0

      id : List ℕ
      id = page_end img n b

      some : 1 ≤ n
      some = (image_fits_facts n (length img) audit_passes.fits).0

      way : (k : ℕ) × (k < 2 * n) × (visit n (get_or hashes b 0) k ≡ b) × ((j : ℕ) → j < k → get_or img (visit n (get_or hashes b 0) j) 0 ≡ 0x00 → ⊥)
      way = reached_told img n (get_or hashes b 0) b some (audit_sound b l f).reached

      go : (j : ℕ) × (j ≤ way.0) × HasPage img n h id (visit n h j) × (lookup_answer img n h id ≡ given (found_at (visit n h j))) → lookup_answer img n h id ≡ given (found_at b)
      go r =
          let d = visit n h r.0 in
          let g : is_full (get_or img d 0) ≡ true = ap is_full r.2.0 ∙ ap (is_kind full) (full_tag_kind h) in
          r.3 ∙ ap (λ (c : ℕ). given (found_at c)) (audit_labels d b (visit_below n h r.0 some) l g f r.2.1)
