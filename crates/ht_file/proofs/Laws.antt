-- What an allowed count and a fitting length say as facts on numbers. Assumes nothing.
use mathlib.Core.Path.{◌≡◌, refl, sym, ap, ◌∙◌}
use mathlib.Core.Bool.{Bool, true, false, true≢false, ◌&&◌}
use Prim.Native.Nat.{ℕ, ◌*◌, ◌≤◌}
use native.Mathlib.Nat.{add-zero}
use native.Mathlib.Omega.{arith}
use lib.Dec.{leb, eqb}
use borrow.Author.Tests.{le-leb, leb-true, eqb-true, eq-eqb, ne_eqb}
use Rattle.answers.specs.Answers.{Answer, given, refused}
use Rattle.ht_file.specs.Places.{count_allowed, tag_pages, page_start, start_in, if_table, tags_fit, image_fits, tags_length, image_length}

-- both halves of a conjunction that holds
pub both_hold : (a b : Bool) → (a && b) ≡ true → (a ≡ true) × (b ≡ true)
both_hold true b e = (refl, e)
both_hold false b e = absurd (true≢false (sym e))

pub allowed_bounds : (n : ℕ) → count_allowed n ≡ true → (1 ≤ n) × (n ≤ 1048576)
allowed_bounds n e =
    let h = both_hold (leb 1 n) (leb n 1048576) e in
    (leb-true 1 n h.0, leb-true n 1048576 h.1)

-- a table that fits: the count is allowed, and the length is the table's
pub tags_fit_facts : (n len : ℕ) → tags_fit n len ≡ true → (1 ≤ n) × (n ≤ 1048576) × (len ≡ tags_length n)
tags_fit_facts n len e =
    let h = both_hold (count_allowed n) (eqb len (tags_length n)) e in
    let b = allowed_bounds n h.0 in
    (b.0, b.1, eqb-true len (tags_length n) h.1)

pub image_fits_facts : (n len : ℕ) → image_fits n len ≡ true → (1 ≤ n) × (n ≤ 1048576) × (len ≡ image_length n)
image_fits_facts n len e =
    let h = both_hold (count_allowed n) (eqb len (image_length n)) e in
    let b = allowed_bounds n h.0 in
    (b.0, b.1, eqb-true len (image_length n) h.1)

-- a bucket of the table, or its end: the page starts where 01 says; the tags end where bucket 0's page starts
pub start_is : (n b : ℕ) → n ≤ 1048576 → b ≤ n → start_in n b ≡ page_start n b
start_is n b l m = rw (le-leb n 1048576 l, le-leb b n m)

pub tags_end : (n : ℕ) → n ≤ 1048576 → start_in n 0 ≡ tags_length n
tags_end n l = start_is n 0 l (omega arith) ∙ ap (λ (p : ℕ). 4096 * p) (add-zero (tag_pages n))

pub image_end : (n : ℕ) → n ≤ 1048576 → start_in n n ≡ image_length n
image_end n l = start_is n n l (omega arith)

-- a length that is told by where a page starts
pub fits_by_start : (n b len l : ℕ) → (n ≤ 1048576 → start_in n b ≡ l) → len ≡ start_in n b → (count_allowed n && eqb len l) ≡ count_allowed n
fits_by_start n b len l law e = go (count_allowed n) refl
  where
    go : (t : Bool) → count_allowed n ≡ t → (t && eqb len l) ≡ t
    go true ok = eq-eqb len l (e ∙ law (allowed_bounds n ok).1)
    go false ok = refl

pub unfit_by_start : (n b len l : ℕ) → (n ≤ 1048576 → start_in n b ≡ l) → (len ≡ start_in n b → ⊥) → (count_allowed n && eqb len l) ≡ false
unfit_by_start n b len l law ne = go (count_allowed n) refl
  where
    go : (t : Bool) → count_allowed n ≡ t → (t && eqb len l) ≡ false
    go true ok = ne_eqb len l (λ e. ne (e ∙ sym (law (allowed_bounds n ok).1)))
    go false ok = refl

-- a table that was tested: it fits, or every call on it answers the refusal
pub table_fits : (fits : Bool) → if_table {A = Unit {0}} fits (given tt) ≡ given tt → fits ≡ true
table_fits true e = refl
table_fits false e = let z : ◌≡◌ {A = ℕ} 0 1 = cc in absurd (omega arith)

pub table_refused : (fits : Bool) (m : ℕ) → if_table {A = Unit {0}} fits (given tt) ≡ refused m → fits ≡ false
table_refused true m e = let z : ◌≡◌ {A = ℕ} 0 1 = cc in absurd (omega arith)
table_refused false m e = refl

pub table_unfit : {A : Type 0} (fits : Bool) (m : ℕ) (x : Answer A) → if_table {A = Unit {0}} fits (given tt) ≡ refused m → refused m ≡ if_table fits x
table_unfit true m x e = let z : ◌≡◌ {A = ℕ} 0 1 = cc in absurd (omega arith)
table_unfit false m x e = let same : 1 ≡ m = cc in ap refused (sym same)
