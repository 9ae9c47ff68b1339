-- The nodes of an update, and the table that has them in front. Assumes nothing.
use mathlib.Core.Path.{◌≡◌, refl, sym, ap, ap₂, ◌∙◌}
use mathlib.Core.List.{List, [], ◌∷◌, ◌++◌}
use Prim.Native.Nat.{ℕ, zero, suc, ◌+◌, ◌-◌, ◌*◌, ◌<◌}
use native.Mathlib.Omega.{arith}
use native.Mathlib.Numerals.{add-one}
use lib.ListN.{length, set, replicate, length-append}
use lib.Seq.{set_at, append_snoc}
use Rattle.blocks.specs.Blocks.{block}
use Rattle.wal.specs.Reader.{nodes_from}
use Rattle.wal_read.specs.Entry.{rows}

pub nodes-length : (log : List ℕ) (p c : ℕ) → length (nodes_from log p c) ≡ c
unfolding nodes_from
nodes-length log p zero = refl
nodes-length log p (suc c) = ap suc (nodes-length log (p + 32) c)

-- one node more is put at the end
pub nodes-suc : (log : List ℕ) (p c : ℕ) → nodes_from log p (suc c) ≡ nodes_from log p c ++ (block 32 log (p + 32 * c) ∷ [])
unfolding nodes_from
nodes-suc log p zero = let e : p ≡ p + 32 * 0 = omega arith in ap (λ (q : ℕ). block 32 log q ∷ []) e
nodes-suc log p (suc c) =
    let e : p + 32 + 32 * c ≡ p + 32 * suc c = omega arith in
    ap (λ (ns : List (List ℕ)). block 32 log p ∷ ns) (nodes-suc log (p + 32) c ∙ ap (λ (q : ℕ). nodes_from log (p + 32) c ++ (block 32 log q ∷ [])) e)

-- ---- the table is filled from the front
pub rows_none : (log : List ℕ) (p : ℕ) → replicate 126 (replicate 32 0) ≡ rows (nodes_from log p 0)
unfolding rows nodes_from
rows_none log p = refl

rows_snoc : (ns : List (List ℕ)) (n : List ℕ) → length ns < 126 → set (rows ns) (length ns) n ≡ rows (ns ++ (n ∷ []))
unfolding rows
rows_snoc ns n h =
    let z : List ℕ = replicate 32 0 in
    let m : ℕ = 126 - suc (length ns) in
    let e : 126 - length ns ≡ suc m = omega arith in
    let l : length (ns ++ (n ∷ [])) ≡ length ns + 1 = length-append ns (n ∷ []) in
    let g : m ≡ 126 - length (ns ++ (n ∷ [])) = omega arith in
    ap (λ (k : ℕ). set (ns ++ replicate k z) (length ns) n) e
    ∙ set_at ns z (replicate m z) n (length ns) refl
    ∙ sym (append_snoc ns n (replicate m z))
    ∙ ap (λ (k : ℕ). (ns ++ (n ∷ [])) ++ replicate k z) g

pub rows_turn : (log : List ℕ) (p c : ℕ) (t : List (List ℕ)) (n : List ℕ) → t ≡ rows (nodes_from log p c) → n ≡ block 32 log (p + 32 * c) → c < 126 → set t c n ≡ rows (nodes_from log p (c + 1))
rows_turn log p c t n e f h =
    let l : length (nodes_from log p c) ≡ c = nodes-length log p c in
    ap₂ (λ (x : List (List ℕ)) (i : ℕ). set x i n) e (sym l)
    ∙ rows_snoc (nodes_from log p c) n (omega arith)
    ∙ ap (λ (x : List ℕ). rows (nodes_from log p c ++ (x ∷ []))) f
    ∙ ap rows (sym (nodes-suc log p c) ∙ ap (nodes_from log p) (sym (add-one c)))
