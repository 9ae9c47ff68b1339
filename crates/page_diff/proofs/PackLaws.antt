-- What a turn of packing and of unpacking adds, and what they end with. Assumes nothing.
use mathlib.Core.Path.{◌≡◌, refl, sym, ap, ap₂, ◌∙◌}
use mathlib.Core.Bool.{Bool, true, false, cond, ◌&&◌, and-true}
use mathlib.Core.List.{List, [], ◌∷◌, ◌++◌, map, map-append}
use Prim.Native.Nat.{ℕ, suc, ◌+◌, ◌-◌, ◌*◌, ◌/◌, ◌%◌, ◌≤◌, ◌<◌}
use native.Mathlib.Nat.{lt_of_not-le}
use native.Mathlib.Numerals.{add-one}
use native.Mathlib.Decide.{dec_le}
use native.Mathlib.Omega.{arith}
use lib.Dec.{ltb}
use lib.ListN.{length, get_or, set, take, replicate, length-append, length-map}
use lib.Seq.{set_at, append_snoc, take-suc, take-length, length-take-le}
use borrow.Author.Tests.{lt-ltb, le-ltb, eq-eqb, ne_eqb}
use Rattle.answers.specs.Answers.{Answer, given, refused, accepted}
use Rattle.blocks.specs.Blocks.{put, tabulate}
use Rattle.blocks.proofs.Laws.{put_in, put_left, put_right, tabulate_is}
use Rattle.page_diff.specs.Diff.{marked, slots_below, slots, count_of, reserved}
use Rattle.page_diff.specs.Pack.{node_at, table_of, packed_by, pack_answer, packed_of, rank, unpack_answer, unpacked_byte, unpacked_page}
use Rattle.page_diff.proofs.SlotLaws.{SlotAt, at_rank, rank_below}

-- ---- packing: the table is filled from the front
pub table_none : (page : List ℕ) → replicate 126 (replicate 32 0) ≡ table_of page []
unfolding table_of
table_none page = refl

table-suc : (page ss : List ℕ) (s : ℕ) → length ss < 126 → set (table_of page ss) (length ss) (node_at page s) ≡ table_of page (ss ++ (s ∷ []))
unfolding table_of
table-suc page ss s h =
    let z : List ℕ = replicate 32 0 in
    let m : ℕ = 126 - suc (length ss) in
    let e : 126 - length ss ≡ suc m = omega arith in
    let l : length (ss ++ (s ∷ [])) ≡ length ss + 1 = length-append ss (s ∷ []) in
    let g : m ≡ 126 - length (ss ++ (s ∷ [])) = omega arith in
    ap (λ (k : ℕ). set (map (node_at page) ss ++ replicate k z) (length ss) (node_at page s)) e
    ∙ set_at (map (node_at page) ss) z (replicate m z) (node_at page s) (length ss) (length-map ss (node_at page))
    ∙ sym (append_snoc (map (node_at page) ss) (node_at page s) (replicate m z))
    ∙ ap₂ (λ (p q : List (List ℕ)). p ++ q) (sym (map-append (node_at page) ss (s ∷ []))) (ap (λ (k : ℕ). replicate k z) g)

pub table_turn : (page ss : List ℕ) (t : List (List ℕ)) (c s : ℕ) → t ≡ table_of page (take c ss) → s ≡ get_or ss c 128 → c < length ss → c < 126 → set t c (node_at page s) ≡ table_of page (take (c + 1) ss)
table_turn page ss t c s e f h k =
    let l : length (take c ss) ≡ c = length-take-le c ss (omega arith) in
    ap₂ (λ (x : List (List ℕ)) (i : ℕ). set x i (node_at page s)) e (sym l)
    ∙ table-suc page (take c ss) s (omega arith)
    ∙ ap (λ (x : ℕ). table_of page (take c ss ++ (x ∷ []))) f
    ∙ ap (table_of page) (sym (take-suc ss c 128 h) ∙ ap (λ (n : ℕ). take n ss) (sym (add-one c)))

pub table_end : (page ss : List ℕ) (t : List (List ℕ)) (c : ℕ) → t ≡ table_of page (take c ss) → c ≡ length ss → t ≡ table_of page ss
table_end page ss t c e f = e ∙ ap (λ (n : ℕ). table_of page (take n ss)) f ∙ ap (table_of page) (take-length ss)

-- ---- unpacking: byte j of the page once the first c nodes are put
abbrev pub put_up_to : List ℕ → List (List ℕ) → List ℕ → ℕ → ℕ → ℕ
put_up_to ws ns page c j =
    cond (marked ws (j / 32) && ltb (rank ws (j / 32)) c) (get_or (get_or ns (rank ws (j / 32)) []) (j % 32) 0) (get_or page j 0)

and_none : (a : Bool) → (a && false) ≡ false
and_none true = refl
and_none false = refl

pub put_none : (ws : List ℕ) (ns : List (List ℕ)) (page : List ℕ) (j : ℕ) → get_or page j 0 ≡ put_up_to ws ns page 0 j
put_none ws ns page j =
    sym (ap (λ (b : Bool). cond (marked ws (j / 32) && b) (get_or (get_or ns (rank ws (j / 32)) []) (j % 32) 0) (get_or page j 0)) (le-ltb (rank ws (j / 32)) 0 (omega arith))
    ∙ ap (λ (b : Bool). cond b (get_or (get_or ns (rank ws (j / 32)) []) (j % 32) 0) (get_or page j 0)) (and_none (marked ws (j / 32))))

module _ (ws : List ℕ) (ns : List (List ℕ)) (page was : List ℕ) (c s : ℕ) (a : SlotAt ws 128 c s) where
  -- a byte of another slot: its slot is done before this turn exactly where it is after
  other_slot : (j : ℕ) → j < 4096 → (j / 32 ≡ s → ⊥) → put_up_to ws ns page c j ≡ put_up_to ws ns page (c + 1) j
  other_slot j h n =
      ap (λ (b : Bool). cond b (get_or (get_or ns (rank ws (j / 32)) []) (j % 32) 0) (get_or page j 0)) (go (marked ws (j / 32)) refl (dec_le c (rank ws (j / 32))) (dec_le (c + 1) (rank ws (j / 32))))
    where
      r : ℕ
      r = rank ws (j / 32)

      go : (b : Bool) → marked ws (j / 32) ≡ b → Dec (c ≤ r) → Dec (c + 1 ≤ r) → (marked ws (j / 32) && ltb r c) ≡ (marked ws (j / 32) && ltb r (c + 1))
      go false e p q = ap (λ (b : Bool). b && ltb r c) e ∙ sym (ap (λ (b : Bool). b && ltb r (c + 1)) e)
      go true e (yes p) (yes q) = ap (λ (b : Bool). marked ws (j / 32) && b) (le-ltb r c p ∙ sym (le-ltb r (c + 1) q))
      go true e (yes p) (no q) =
          let f : r ≡ length (slots_below ws s) = omega (arith, a.ranked) in
          absurd (n (sym (at_rank ws 128 (j / 32) 128 (omega arith) e) ∙ ap (λ (i : ℕ). get_or (slots ws) i 128) f ∙ at_rank ws 128 s 128 a.below a.has_mark))
      go true e (no p) q = ap (λ (b : Bool). marked ws (j / 32) && b) (lt-ltb r c (lt_of_not-le p) ∙ sym (lt-ltb r (c + 1) (omega arith)))

  -- a byte of this slot
  this_slot : (j : ℕ) → j / 32 ≡ s → put_up_to ws ns page (c + 1) j ≡ get_or (get_or ns c []) (j % 32) 0
  this_slot j e =
      let r : rank ws (j / 32) ≡ c = ap (rank ws) e ∙ a.ranked in
      ap₂ (λ (m l : Bool). cond (m && l) (get_or (get_or ns (rank ws (j / 32)) []) (j % 32) 0) (get_or page j 0)) (ap (marked ws) e ∙ a.has_mark) (lt-ltb (rank ws (j / 32)) (c + 1) (omega arith))
      ∙ ap (λ (i : ℕ). get_or (get_or ns i []) (j % 32) 0) r

  pub put_turn : (n : List ℕ) → n ≡ get_or ns c [] → length n ≡ 32 → length was ≡ 4096 → s < 126 → ((j : ℕ) → j < 4096 → get_or was j 0 ≡ put_up_to ws ns page c j)
      → (j : ℕ) → j < 4096 → get_or (put was (32 * s) n) j 0 ≡ put_up_to ws ns page (c + 1) j
  put_turn n e l w k f j h = go (dec_le (32 * s) j) (dec_le (32 * s + 32) j)
    where
      go : Dec (32 * s ≤ j) → Dec (32 * s + 32 ≤ j) → get_or (put was (32 * s) n) j 0 ≡ put_up_to ws ns page (c + 1) j
      go (yes p) (yes q) = put_right was (32 * s) n j (omega arith) ∙ f j h ∙ other_slot j h (λ d. omega arith)
      go (yes p) (no q) =
          let d : j / 32 ≡ s = omega arith in
          let m : j - 32 * s ≡ j % 32 = omega arith in
          put_in was (32 * s) n j (omega arith) p (omega arith) ∙ ap₂ (λ (x : List ℕ) (i : ℕ). get_or x i 0) e m ∙ sym (this_slot j d)
      go (no p) q = put_left was (32 * s) n j (lt_of_not-le p) ∙ f j h ∙ other_slot j h (λ d. omega arith)

-- all nodes are put
pub put_all : (ws : List ℕ) (ns : List (List ℕ)) (page out : List ℕ) (c : ℕ) → c ≡ count_of ws → length out ≡ 4096 → ((j : ℕ) → j < 4096 → get_or out j 0 ≡ put_up_to ws ns page c j)
    → out ≡ tabulate (unpacked_byte ws ns page) 4096
put_all ws ns page out c e l f = tabulate_is (unpacked_byte ws ns page) 4096 out l (λ j h. f j h ∙ ap (λ (b : Bool). cond b (get_or (get_or ns (rank ws (j / 32)) []) (j % 32) 0) (get_or page j 0)) (go j h (marked ws (j / 32)) refl))
  where
    go : (j : ℕ) → j < 4096 → (b : Bool) → marked ws (j / 32) ≡ b → (marked ws (j / 32) && ltb (rank ws (j / 32)) c) ≡ marked ws (j / 32)
    go j h true m =
        ap (λ (b : Bool). marked ws (j / 32) && b) (lt-ltb (rank ws (j / 32)) c (omega (arith, e, rank_below ws 128 (j / 32) (omega arith) m))) ∙ and-true (marked ws (j / 32))
    go j h false m = ap (λ (b : Bool). b && ltb (rank ws (j / 32)) c) m ∙ sym m

-- ---- the answers, test by test
module _ (ws page : List ℕ) where
  pub pack-length : (length page ≡ 4096 → ⊥) → pack_answer ws page ≡ refused 2
  unfolding pack_answer
  pack-length n = simp (ne_eqb (length page) 4096 n)

  pub pack_reserved : length page ≡ 4096 → reserved ws ≡ true → pack_answer ws page ≡ refused 4
  unfolding pack_answer
  pack_reserved l e = simp (eq-eqb (length page) 4096 l, e)

  pub pack_given : length page ≡ 4096 → reserved ws ≡ false → pack_answer ws page ≡ given tt
  unfolding pack_answer
  pack_given l e = simp (eq-eqb (length page) 4096 l, e)

  pub packed_given : pack_answer ws page ≡ given tt → packed_by (table_of page (slots ws)) (count_of ws) ≡ packed_of ws page
  packed_given e = sym (ap (λ (a : Answer (Unit {0})). cond (accepted a) (packed_by (table_of page (slots ws)) (count_of ws)) (packed_by (table_of page []) 0)) e)

module _ (ws : List ℕ) (held : ℕ) (page : List ℕ) where
  pub unpack-length : (length page ≡ 4096 → ⊥) → unpack_answer ws held page ≡ refused 2
  unfolding unpack_answer
  unpack-length n = simp (ne_eqb (length page) 4096 n)

  pub unpack_reserved : length page ≡ 4096 → reserved ws ≡ true → unpack_answer ws held page ≡ refused 4
  unfolding unpack_answer
  unpack_reserved l e = simp (eq-eqb (length page) 4096 l, e)

  pub unpack_count : length page ≡ 4096 → reserved ws ≡ false → (held ≡ count_of ws → ⊥) → unpack_answer ws held page ≡ refused 2
  unfolding unpack_answer
  unpack_count l e n = simp (eq-eqb (length page) 4096 l, e, ne_eqb held (count_of ws) n)

  pub unpack_given : length page ≡ 4096 → reserved ws ≡ false → held ≡ count_of ws → unpack_answer ws held page ≡ given tt
  unfolding unpack_answer
  unpack_given l e c = simp (eq-eqb (length page) 4096 l, e, eq-eqb held (count_of ws) c)

  pub unpacked_refused : (ns : List (List ℕ)) (n : ℕ) → unpack_answer ws held page ≡ refused n → page ≡ unpacked_page ws ns held page
  unpacked_refused ns n e = sym (ap (λ (a : Answer (Unit {0})). cond (accepted a) (tabulate (unpacked_byte ws ns page) 4096) page) e)

  pub unpacked_given : (ns : List (List ℕ)) → unpack_answer ws held page ≡ given tt → tabulate (unpacked_byte ws ns page) 4096 ≡ unpacked_page ws ns held page
  unpacked_given ns e = sym (ap (λ (a : Answer (Unit {0})). cond (accepted a) (tabulate (unpacked_byte ws ns page) 4096) page) e)
