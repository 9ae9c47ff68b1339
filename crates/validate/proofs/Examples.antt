-- 01, 'Audit': what an audit answers, each refusal with its number and a table that passes, on literals: by
-- computation, and by the laws of reaching where a path is walked (its 100,000 visits are not computed). Assumes
-- nothing.
use mathlib.Core.Path.{◌≡◌, refl, ap, ap₂, ◌∙◌}
use mathlib.Core.Bool.{Bool, true, false, cond}
use mathlib.Core.List.{List, [], ◌∷◌, map}
use Prim.Native.Nat.{ℕ, zero, suc, ◌≤◌, ◌<◌}
use native.Mathlib.Omega.{arith}
use lib.Dec.{eqb}
use lib.ListN.{get_or, replicate}
use lib.Ieee.{binary64}
use lib.Ieee as Ieee
use Rattle.std.specs.Prelude.{Ok, Err}
use Rattle.answers.specs.Answers.{Answer, given, refused, and_then, answer_of}
use Rattle.answers.specs.declared.Refusal.TheVariants.{PaddingUsed, LabelTwice, TagWrong, EmptyFirst, NotReached}
use Rattle.label_search.specs.Labels.{labelled, doubled}
use Rattle.blocks.specs.Blocks.{all_zero}
use Rattle.meta_map.specs.Tags.{full_tag, count_of, is_full}
use Rattle.probe.specs.Path.{visit}
use Rattle.validate.specs.Audit.{reaching, audit_visits, stops_reach, path_audit, bucket_audit, audited_to, rate_of, audit_of, audit_answer}
use Rattle.validate.specs.declared.Audit.{Audit}
use Rattle.validate.proofs.Audits.{audit_buckets}
use Rattle.validate.proofs.Reaches.{reached_at, empty_at_lem, never_at}

-- images whose tags begin with these, and all of whose pages are zero
abbrev one : ℕ → ℕ → List ℕ
one a b = a ∷ b ∷ replicate 8190 0

abbrev two : ℕ → ℕ → List ℕ
two a b = a ∷ b ∷ replicate 12286 0

abbrev three : ℕ → ℕ → ℕ → List ℕ
three a b c = a ∷ b ∷ c ∷ replicate 16381 0

abbrev audit : ℕ → ℕ → ℕ → Audit
audit n o bits = record { capacity = n; occupied = o; rate = Ieee.of_bits binary64 bits }

-- 1 for the count and for the length, 2, 20, 22, and a table with no full bucket: its rate is 0.0
pub audits : audit_answer (one 0 0) 0 [] ∷ audit_answer (one 0 0) 2 (0 ∷ 0 ∷ []) ∷ audit_answer (one 0 0) 1 [] ∷ audit_answer (one 0x81 0x01) 1 (0 ∷ []) ∷ audit_answer (one 0x81 0) 1 (0 ∷ []) ∷ audit_answer (one 0x7F 0) 1 (0 ∷ []) ∷ []
    ≡ refused 1 ∷ refused 1 ∷ refused 2 ∷ refused 20 ∷ refused 22 ∷ given (audit 1 0 0) ∷ []
unfolding audit_answer Ieee.div Ieee.of_int Ieee.of_bits
audits = refl

-- a full bucket with no label and the right tag is audited by its path
bucket_by : (img : List ℕ) (n h b : ℕ) → doubled img n b ≡ false → is_full (get_or img b 0) ≡ true → eqb (get_or img b 0) (full_tag h) ≡ true → bucket_audit img n h b ≡ reaching img n h b
bucket_by img n h b d f t =
    ap (λ (x : Bool). cond x (refused 21) (path_audit img n h b)) d ∙ ap (λ (x : Bool). cond x (cond (eqb (get_or img b 0) (full_tag h)) (reaching img n h b) (refused 22)) (given tt)) f
    ∙ ap (λ (x : Bool). cond x (reaching img n h b) (refused 22)) t

next_audited : (img : List ℕ) (n : ℕ) (hashes : List ℕ) (k : ℕ) (x : Answer (Unit {0})) → audited_to img n hashes k ≡ given tt → bucket_audit img n (get_or hashes k 0) k ≡ x → audited_to img n hashes (suc k) ≡ x
unfolding audited_to
next_audited img n hashes k x e f = ap₂ (λ (a b : Answer (Unit {0})). and_then a (λ _. b)) e f

none_audited : (img : List ℕ) (n : ℕ) (hashes : List ℕ) → audited_to img n hashes 0 ≡ given tt
unfolding audited_to
none_audited img n hashes = refl

-- what an audit of two buckets says of the second, where the first passes
both_audited : (img : List ℕ) (hashes : List ℕ) (x : Answer (Unit {0})) → bucket_audit img 2 (get_or hashes 0 0) 0 ≡ given tt → bucket_audit img 2 (get_or hashes 1 0) 1 ≡ x → audited_to img 2 hashes 2 ≡ x
both_audited img hashes x e f = next_audited img 2 hashes 1 x (next_audited img 2 hashes 0 (given tt) (none_audited img 2 hashes) e) f

-- bucket 0 of two, with the tag 80 and the hash 0: its path begins there
first_passes : (t : ℕ) → bucket_audit (two 0x80 t) 2 0 0 ≡ given tt
unfolding visit labelled
first_passes t =
    bucket_by (two 0x80 t) 2 0 0 refl refl refl ∙ reached_at (two 0x80 t) 2 0 0 (omega arith) 0 (omega arith) (λ j x y. absurd (omega arith)) refl

half_full : audit_answer (two 0x80 0x00) 2 (0 ∷ 0 ∷ []) ≡ given (audit 2 1 0x3FE0000000000000)
unfolding labelled all_zero count_of rate_of Ieee.div Ieee.of_int Ieee.of_bits
half_full =
    audit_buckets (two 0x80 0x00) 2 (0 ∷ 0 ∷ []) refl refl refl
    ∙ ap (λ (a : Answer (Unit {0})). and_then a (λ _. given (audit_of (two 0x80 0x00) 2))) (both_audited (two 0x80 0x00) (0 ∷ 0 ∷ []) (given tt) (first_passes 0x00) refl)

label_twice : audit_answer (two 0x80 0x80) 2 (0 ∷ 1 ∷ []) ≡ refused 21
unfolding labelled all_zero
label_twice =
    audit_buckets (two 0x80 0x80) 2 (0 ∷ 1 ∷ []) refl refl refl
    ∙ ap (λ (a : Answer (Unit {0})). and_then a (λ _. given (audit_of (two 0x80 0x80) 2))) (both_audited (two 0x80 0x80) (0 ∷ 1 ∷ []) (refused 21) (first_passes 0x80) refl)

-- bucket 1 of two, whose path begins at the empty bucket 0
empty_first : audit_answer (two 0x00 0x80) 2 (0 ∷ 0 ∷ []) ≡ refused 23
unfolding visit labelled all_zero
empty_first =
    audit_buckets (two 0x00 0x80) 2 (0 ∷ 0 ∷ []) refl refl refl
    ∙ ap (λ (a : Answer (Unit {0})). and_then a (λ _. given (audit_of (two 0x00 0x80) 2)))
    (both_audited (two 0x00 0x80) (0 ∷ 0 ∷ []) (refused 23) refl
    (bucket_by (two 0x00 0x80) 2 0 1 refl refl refl
    ∙ empty_at_lem (two 0x00 0x80) 2 0 1 (omega arith) 0 (omega arith) (λ j x y. absurd (omega arith)) (λ e. let z : ◌≡◌ {A = ℕ} 0 1 = e in omega arith) refl))

-- bucket 2 of three, whose path is 0 1 0 0 1 0 for ever
not_reached : audit_answer (three 0x7F 0x7F 0x80) 3 (0 ∷ 0 ∷ 0 ∷ []) ≡ refused 24
unfolding visit labelled all_zero
not_reached =
    let img = three 0x7F 0x7F 0x80 in
    let hs : List ℕ = 0 ∷ 0 ∷ 0 ∷ [] in
    audit_buckets img 3 hs refl refl refl
    ∙ ap (λ (a : Answer (Unit {0})). and_then a (λ _. given (audit_of img 3)))
    (next_audited img 3 hs 2 (refused 24)
    (next_audited img 3 hs 1 (given tt) (next_audited img 3 hs 0 (given tt) (none_audited img 3 hs) refl) refl)
    (bucket_by img 3 0 2 refl refl refl ∙ never_at img 3 0 2 (omega arith) passed))
  where
    passed : (j : ℕ) → 0 ≤ j → j < 3 → stops_reach (three 0x7F 0x7F 0x80) 2 (visit 3 0 j) ≡ false
    passed zero x y = refl
    passed (suc zero) x y = refl
    passed (suc (suc zero)) x y = refl
    passed (suc (suc (suc j))) x y = absurd (omega arith)

-- buckets that pass, and 21, 23, 24: half of two buckets full is 0.5
pub bucket_audits : audit_answer (two 0x80 0x00) 2 (0 ∷ 0 ∷ []) ∷ audit_answer (two 0x80 0x80) 2 (0 ∷ 1 ∷ []) ∷ audit_answer (two 0x00 0x80) 2 (0 ∷ 0 ∷ []) ∷ audit_answer (three 0x7F 0x7F 0x80) 3 (0 ∷ 0 ∷ 0 ∷ []) ∷ []
    ≡ given (audit 2 1 0x3FE0000000000000) ∷ refused 21 ∷ refused 23 ∷ refused 24 ∷ []
bucket_audits = four half_full label_twice empty_first not_reached
  where
    four : {a b c d x y z w : Answer Audit} → a ≡ x → b ≡ y → c ≡ z → d ≡ w → a ∷ b ∷ c ∷ d ∷ [] ≡ x ∷ y ∷ z ∷ w ∷ []
    four p q r s = cc

-- "max(2n, 100,000) visits"
pub visits_made : map audit_visits (1 ∷ 50000 ∷ 60000 ∷ []) ≡ 100000 ∷ 100000 ∷ 120000 ∷ []
visits_made = refl

-- each case of the code's answer
pub said : map answer_of (Ok (audit 2 1 0x3FE0000000000000) ∷ Err PaddingUsed ∷ Err LabelTwice ∷ Err TagWrong ∷ Err EmptyFirst ∷ Err NotReached ∷ [])
    ≡ given (audit 2 1 0x3FE0000000000000) ∷ refused 20 ∷ refused 21 ∷ refused 22 ∷ refused 23 ∷ refused 24 ∷ []
said = refl
