-- What is known of tags: the three tests by kind, the full tag, counts by kind as one tag is written, and the padding.
-- Assumes nothing.
use mathlib.Core.Path.{◌≡◌, refl, sym, ap, ap₂, ◌∙◌}
use mathlib.Core.Bool.{Bool, true, false, cond}
use mathlib.Core.List.{List, ◌++◌}
use Prim.Native.Nat.{ℕ, zero, suc, ◌+◌, ◌^◌, ◌≤◌, ◌<◌}
use native.Mathlib.Nat.{le_refl}
use native.Mathlib.Decide.{ℕ_discrete}
use native.Mathlib.Numerals.{add-one, unary_clauses}
use native.Mathlib.Omega.{arith}
use lib.Dec.{leb, eqb}
use lib.ListN.{length, get_or, get_or-append, set, take, drop, length-drop, length-append}
use Rattle.std.proofs.lemmas.List.{get_or-append-add, take-append-drop, length-take-le}
use lib.Seq.{get_or-set_same, get_or-set_other, get_or-drop, drop-set-lt}
use borrow.Author.Tests.{leb-true, eqb-true, le-leb, ne_eqb}
use Rattle.blocks.specs.Blocks.{all_zero}
use Rattle.blocks.proofs.Zeros.{zeros_at, zeros_all}
use Rattle.meta_map.specs.Tags.{Kind, empty, tombstone, full, other, kind_of, is_kind, full_tag, one, count_of, padding_empty}

-- a kind is told by one test
pub kind_empty : (t : ℕ) → is_kind empty (kind_of t) ≡ eqb t 0x00
kind_empty t = go (eqb t 0x00) (eqb t 0x7F) (leb 128 t)
  where
    go : (a b c : Bool) → is_kind empty (cond a empty (cond b tombstone (cond c full other))) ≡ a
    go true b c = refl
    go false true c = refl
    go false false true = refl
    go false false false = refl

pub kind_tombstone : (t : ℕ) → is_kind tombstone (kind_of t) ≡ eqb t 0x7F
kind_tombstone t = go (eqb t 0x00) (eqb t 0x7F) (leb 128 t) (λ e. ne_eqb t 0x7F (λ q. absurd (omega (arith, eqb-true t 0x00 e))))
  where
    go : (a b c : Bool) → (a ≡ true → b ≡ false) → is_kind tombstone (cond a empty (cond b tombstone (cond c full other))) ≡ b
    go true b c h = sym (h refl)
    go false true c h = refl
    go false false true h = refl
    go false false false h = refl

pub kind_full : (t : ℕ) → is_kind full (kind_of t) ≡ leb 128 t
kind_full t =
    go (eqb t 0x00) (eqb t 0x7F) (leb 128 t) (λ e. ne_eqb t 0x00 (λ q. absurd (omega (arith, leb-true 128 t e))))
    (λ e. ne_eqb t 0x7F (λ q. absurd (omega (arith, leb-true 128 t e))))
  where
    go : (a b c : Bool) → (c ≡ true → a ≡ false) → (c ≡ true → b ≡ false) → is_kind full (cond a empty (cond b tombstone (cond c full other))) ≡ c
    go a b true h g = rw (h refl, g refl)
    go true b false h g = refl
    go false true false h g = refl
    go false false false h g = refl

-- the full tag is a byte with bit 7 set, so it is none of the marks
pub full_tag_high : (h : ℕ) → 128 ≤ full_tag h
full_tag_high h = omega arith

pub full_tag_byte : (h : ℕ) → h < 2 ^ 64 → full_tag h < 256
full_tag_byte h l = omega arith

pub full_tag_not_empty : (h : ℕ) → full_tag h ≡ 0x00 → ⊥
full_tag_not_empty h e = omega arith

pub full_tag_not_tombstone : (h : ℕ) → full_tag h ≡ 0x7F → ⊥
full_tag_not_tombstone h e = omega arith

pub full_tag_kind : (h : ℕ) → kind_of (full_tag h) ≡ full
full_tag_kind h =
    simp (ne_eqb (full_tag h) 0x00 (full_tag_not_empty h), ne_eqb (full_tag h) 0x7F (full_tag_not_tombstone h), le-leb 128 (full_tag h) (full_tag_high h))

one-le : (t : Bool) → one t ≤ 1
one-le true = omega arith
one-le false = omega arith

-- one more tag
pub count-suc : (k : Kind) (ts : List ℕ) (n : ℕ) → count_of k ts (n + 1) ≡ count_of k ts n + one (is_kind k (kind_of (get_or ts n 0)))
unfolding count_of
count-suc k ts n = ap (count_of k ts) (add-one n)

pub count-le : (k : Kind) (ts : List ℕ) (n : ℕ) → count_of k ts n ≤ n
unfolding count_of
count-le k ts zero = omega arith
count-le k ts (suc n) = omega (arith, count-le k ts n, one-le (is_kind k (kind_of (get_or ts n 0))))

-- each tag is of one kind
pub counts_all : (ts : List ℕ) (n : ℕ) → count_of empty ts n + count_of tombstone ts n + count_of full ts n + count_of other ts n ≡ n
unfolding count_of
counts_all ts zero = refl
counts_all ts (suc n) = omega (arith, counts_all ts n, all (kind_of (get_or ts n 0)))
  where
    all : (k : Kind) → one (is_kind empty k) + one (is_kind tombstone k) + one (is_kind full k) + one (is_kind other k) ≡ 1
    all empty = refl
    all tombstone = refl
    all full = refl
    all other = refl

-- only the first n tags count
pub count_agree : (k : Kind) (ts us : List ℕ) (n : ℕ) → ((i : ℕ) → i < n → get_or ts i 0 ≡ get_or us i 0) → count_of k ts n ≡ count_of k us n
unfolding count_of
count_agree k ts us zero h = refl
count_agree k ts us (suc n) h =
    ap₂ (λ (c t : ℕ). c + one (is_kind k (kind_of t))) (count_agree k ts us n (λ i l. h i (omega arith))) (h n (le_refl (suc n)))

pub count_set_past : (k : Kind) (ts : List ℕ) (b t n : ℕ) → n ≤ b → count_of k (set ts b t) n ≡ count_of k ts n
count_set_past k ts b t n l = count_agree k (set ts b t) ts n (λ i j. get_or-set_other ts b i t 0 (λ e. absurd (omega arith)))

-- writing one tag takes one from its old kind and adds one to its new
pub count_set : (k : Kind) (ts : List ℕ) (b t n : ℕ) → b < n → b < length ts
    → count_of k (set ts b t) n + one (is_kind k (kind_of (get_or ts b 0))) ≡ count_of k ts n + one (is_kind k (kind_of t))
unfolding count_of
count_set k ts b t zero l m = absurd (omega arith)
count_set k ts b t (suc n) l m = go (ℕ_discrete b n) (λ (d : b < n). count_set k ts b t n d m)
  where
    counts : ℕ → ℕ
    counts x = one (is_kind k (kind_of x))

    go : Dec (b ≡ n) → (b < n → count_of k (set ts b t) n + counts (get_or ts b 0) ≡ count_of k ts n + counts t)
        → count_of k (set ts b t) (suc n) + counts (get_or ts b 0) ≡ count_of k ts (suc n) + counts t
    go (yes e) rec =
        let new = ap counts (ap (λ (i : ℕ). get_or (set ts b t) i 0) (sym e) ∙ get_or-set_same ts b t 0 m) in
        let old = ap (λ (i : ℕ). counts (get_or ts i 0)) e in
        omega (arith, new, old, count_set_past k ts b t n (omega arith))
    go (no e) rec = omega (arith, rec (omega arith), ap counts (get_or-set_other ts b n t 0 (λ q. e (sym q))))

-- a tag of the kind among them
pub count_pos : (k : Kind) (ts : List ℕ) (b n : ℕ) → b < n → is_kind k (kind_of (get_or ts b 0)) ≡ true → 1 ≤ count_of k ts n
unfolding count_of
count_pos k ts b zero l e = absurd (omega arith)
count_pos k ts b (suc n) l e = go (ℕ_discrete b n) (λ (d : b < n). count_pos k ts b n d e)
  where
    go : Dec (b ≡ n) → (b < n → 1 ≤ count_of k ts n) → 1 ≤ count_of k ts (suc n)
    go (yes q) rec = omega (arith, ap one (ap (λ (i : ℕ). is_kind k (kind_of (get_or ts i 0))) (sym q) ∙ e))
    go (no q) rec = omega (arith, rec (omega arith))

-- the padding
pub padding_at : (ts : List ℕ) (n : ℕ) → padding_empty ts n ≡ true → (i : ℕ) → get_or ts (n + i) 0 ≡ 0
padding_at ts n e i = sym (get_or-drop n ts i 0) ∙ zeros_at (drop n ts) e i

pub padding_all : (ts : List ℕ) (n : ℕ) → ((i : ℕ) → n + i < length ts → get_or ts (n + i) 0 ≡ 0) → padding_empty ts n ≡ true
padding_all ts n h = zeros_all (drop n ts) (λ i l. get_or-drop n ts i 0 ∙ h i (omega (arith, length-drop n ts)))

-- a bucket's tag is no padding
pub padding_set : (ts : List ℕ) (n b t : ℕ) → b < n → padding_empty (set ts b t) n ≡ padding_empty ts n
padding_set ts n b t l = ap all_zero (drop-set-lt n ts b t l)

-- the first tags are counted whatever follows them
pub count-prefix : (k : Kind) (xs ys : List ℕ) (n : ℕ) → n ≤ length xs → count_of k (xs ++ ys) n ≡ count_of k xs n
unfolding count_of
count-prefix k xs ys zero l = refl
count-prefix k xs ys (suc n) l =
    ap₂ (λ (a t : ℕ). a + one (is_kind k (kind_of t))) (count-prefix k xs ys n (omega arith)) (get_or-append xs ys 0 n (omega arith))

pub count-both : (k : Kind) (xs ys : List ℕ) (n : ℕ) → count_of k (xs ++ ys) (length xs + n) ≡ count_of k xs (length xs) + count_of k ys n
unfolding count_of
count-both k xs ys zero = simp unary_clauses (count-prefix k xs ys (length xs) (le_refl (length xs)))
count-both k xs ys (suc n) =
    let before : count_of k (xs ++ ys) (length xs + n) ≡ count_of k xs (length xs) + count_of k ys n = count-both k xs ys n in
    let tag : one (is_kind k (kind_of (get_or (xs ++ ys) (length xs + n) 0))) ≡ one (is_kind k (kind_of (get_or ys n 0))) =
    ap (λ (t : ℕ). one (is_kind k (kind_of t))) (get_or-append-add xs ys n 0) in
    simp unary_clauses (omega (arith, before, tag))

-- all tags of one list and then of another
pub count-append : (k : Kind) (xs ys : List ℕ) → count_of k (xs ++ ys) (length (xs ++ ys)) ≡ count_of k xs (length xs) + count_of k ys (length ys)
count-append k xs ys = ap (count_of k (xs ++ ys)) (length-append xs ys) ∙ count-both k xs ys (length ys)

pub count-nothing : (k : Kind) (xs : List ℕ) → length xs ≡ 0 → count_of k xs (length xs) ≡ 0
unfolding count_of
count-nothing k xs e = rw e refl

-- the first n tags by themselves
pub count-take : (k : Kind) (xs : List ℕ) (n : ℕ) → n ≤ length xs → count_of k xs n ≡ count_of k (take n xs) (length (take n xs))
count-take k xs n l =
    sym (ap (λ (ts : List ℕ). count_of k ts n) (take-append-drop n xs)) ∙ count-prefix k (take n xs) (drop n xs) n (omega (arith, length-take-le n xs l)) ∙ ap (count_of k (take n xs)) (sym (length-take-le n xs l))
