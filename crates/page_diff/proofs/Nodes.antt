-- Nodes put one after the other, out of a table or out of a page. Assumes nothing.
use mathlib.Core.Path.{◌≡◌, refl, sym, ap, ◌∙◌}
use mathlib.Core.Bool.{false}
use mathlib.Core.List.{List, [], ◌∷◌, ◌++◌, map}
use Prim.Native.Nat.{ℕ, zero, suc, ◌+◌, ◌-◌, ◌*◌, ◌≤◌, ◌<◌}
use native.Mathlib.Nat.{lt_of_not-le}
use native.Mathlib.Decide.{dec_le}
use native.Mathlib.Numerals.{add-one}
use native.Mathlib.Omega.{arith}
use lib.ListN.{length, get_or, take, replicate, length-append, length-map, replicate-append-replicate, get_or-map, get_or-eq_default}
use lib.Seq.{take-suc, take-length}
use Rattle.blocks.specs.Blocks.{put, flat}
use Rattle.blocks.proofs.Laws.{block-length, put-length, put_short}
use Rattle.blocks.proofs.Parts.{put_nothing, put_then, flat-snoc, flat_append}
use Rattle.page_diff.specs.Diff.{slots, count_of, reserved}
use Rattle.page_diff.specs.Pack.{node_at, table_of, nodes_put}

-- ---- nodes, one after the other: the first c of ns are put
pub record Nodes (s : List ℕ) (at : ℕ) (ns : List (List ℕ)) (t : List ℕ) (c : ℕ) : Type 0 where
  pub wide : length (flat (take c ns)) ≡ 32 * c
  pub there : t ≡ put s at (flat (take c ns))

pub nodes_start : (s : List ℕ) (at : ℕ) (ns : List (List ℕ)) → at ≤ length s → Nodes s at ns s 0
unfolding flat
nodes_start s at ns h = record { wide = refl; there = put_nothing s at h }

pub nodes-length : (s : List ℕ) (at : ℕ) (ns : List (List ℕ)) (t : List ℕ) (c : ℕ) → Nodes s at ns t c → length t ≡ length s
nodes-length s at ns t c inv = ap length inv.there ∙ put-length s at (flat (take c ns))

-- a row that has 32 bytes is there
pub row_there : (ns : List (List ℕ)) (c : ℕ) → length (get_or ns c []) ≡ 32 → c < length ns
row_there ns c l = go (dec_le (length ns) c)
  where
    go : Dec (length ns ≤ c) → c < length ns
    go (yes p) = absurd (omega (arith, ap length (get_or-eq_default ns [] {n = c} p)))
    go (no p) = lt_of_not-le p

module _ (s : List ℕ) (at : ℕ) (ns : List (List ℕ)) (t : List ℕ) (c : ℕ) (inv : Nodes s at ns t c) where
  turn : (n u : List ℕ) → u ≡ put t (at + 32 * c) n → take (suc c) ns ≡ take c ns ++ (n ∷ []) → length n ≡ 32 → at + 32 * c + 32 ≤ length s → Nodes s at ns u (c + 1)
  turn n u p e l h =
      let done : List ℕ = flat (take c ns) in
      let one_more : flat (take (c + 1) ns) ≡ done ++ n = ap (λ (k : ℕ). flat (take k ns)) (add-one c) ∙ ap flat e ∙ flat-snoc (take c ns) n in
      record {
        wide = ap length one_more ∙ length-append done n ∙ omega (arith, inv.wide);
        there =
            p ∙ ap (λ (l : List ℕ). put l (at + 32 * c) n) inv.there
            ∙ put_then s at (at + 32 * c) done n (omega (arith, inv.wide)) (omega arith) ∙ ap (put s at) (sym one_more);
      }

  -- a row of a table
  pub table_turn : (u : List ℕ) → u ≡ put t (at + 32 * c) (get_or ns c []) → length (get_or ns c []) ≡ 32 → at + 32 * c + 32 ≤ length s → Nodes s at ns u (c + 1)
  table_turn u p l h = turn (get_or ns c []) u p (take-suc ns c [] (row_there ns c l)) l h

-- the node of a page at a slot
pub page_turn : (s : List ℕ) (at : ℕ) (page ss t : List ℕ) (c i : ℕ) → Nodes s at (map (node_at page) ss) t c → i ≡ get_or ss c 128 → c < length ss → at + 32 * c + 32 ≤ length s
    → (u : List ℕ) → u ≡ put t (at + 32 * c) (node_at page i) → Nodes s at (map (node_at page) ss) u (c + 1)
page_turn s at page ss t c i inv e k h u p =
    let f : ℕ → List ℕ = node_at page in
    let row : get_or (map f ss) c (f 128) ≡ f i = get_or-map f ss c 128 ∙ ap f (sym e) in
    turn s at (map f ss) t c inv (f i) u p (take-suc (map f ss) c (f 128) (omega (arith, length-map ss f)) ∙ ap (λ (n : List ℕ). take c (map f ss) ++ (n ∷ [])) row) (block-length 32 page (32 * i)) h

pub nodes_end : (s : List ℕ) (at : ℕ) (ns : List (List ℕ)) (t : List ℕ) (c : ℕ) → Nodes s at ns t c → c ≡ length ns → t ≡ put s at (flat ns)
nodes_end s at ns t c inv e = inv.there ∙ ap (λ (k : ℕ). put s at (flat (take k ns))) e ∙ ap (λ (l : List (List ℕ)). put s at (flat l)) (take-length ns)

pub page_nodes-length : (page ss : List ℕ) → length (flat (map (node_at page) ss)) ≡ 32 * length ss
unfolding flat
page_nodes-length page [] = refl
page_nodes-length page (s ∷ ss) =
    omega (arith, length-append (node_at page s) (flat (map (node_at page) ss)), block-length 32 page (32 * s), page_nodes-length page ss)

-- ---- a packed table, node after node: the nodes, then zeros
flat_zeros : (k : ℕ) → flat (replicate k (replicate 32 0)) ≡ replicate (32 * k) 0
unfolding flat
flat_zeros zero = refl
flat_zeros (suc k) = ap (λ (l : List ℕ). replicate 32 0 ++ l) (flat_zeros k) ∙ replicate-append-replicate 32 (32 * k) 0 ∙ ap (λ (m : ℕ). replicate m 0) {x = 32 + 32 * k} {y = 32 * suc k} (omega arith)

pub table_bytes : (page ss : List ℕ) → flat (table_of page ss) ≡ flat (map (node_at page) ss) ++ replicate (32 * (126 - length ss)) 0
unfolding table_of
table_bytes page ss =
    flat_append (map (node_at page) ss) (replicate (126 - length ss) (replicate 32 0))
    ∙ ap (λ (l : List ℕ). flat (map (node_at page) ss) ++ l) (flat_zeros (126 - length ss))

-- a diff of nodes alone has them put
pub nodes_plain : (s : List ℕ) (at : ℕ) (ws page : List ℕ) → reserved ws ≡ false → nodes_put s at ws page ≡ put s at (flat (map (node_at page) (slots ws)))
nodes_plain s at ws page r = simp r

-- and nodes that would go past the end leave s
pub nodes_short : (s : List ℕ) (at : ℕ) (ws page : List ℕ) → reserved ws ≡ false → length s < at + 32 * count_of ws → nodes_put s at ws page ≡ s
nodes_short s at ws page r l =
    nodes_plain s at ws page r ∙ put_short s at (flat (map (node_at page) (slots ws))) (omega (arith, page_nodes-length page (slots ws)))
