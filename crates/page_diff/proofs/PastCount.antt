-- "entries from the count on are .. ignored where a caller lends others": a marked slot's rank is below the count, so two tables that agree
-- in the first `held` entries are unpacked to one page, with one answer. Assumes nothing.
use mathlib.Core.Path.{◌≡◌, refl, sym, ap, ◌∙◌}
use mathlib.Core.Bool.{Bool, true, false, cond}
use mathlib.Core.List.{List, [], ◌∷◌}
use Prim.Native.Nat.{ℕ, ◌/◌, ◌%◌, ◌<◌}
use native.Mathlib.Omega.{arith}
use lib.Dec.{eqb}
use lib.ListN.{length, get_or, take, replicate}
use lib.Seq.{get_or-take}
use borrow.Author.Tests.{eqb-true}
use Rattle.std.specs.Prelude.{Result}
use Rattle.answers.specs.Answers.{Answer, given, refused, accepted}
use Rattle.answers.specs.declared.Refusal.{Refusal}
use Rattle.answers.proofs.Laws.{answer_one, given_refused}
use Rattle.blocks.specs.Blocks.{tabulate}
use Rattle.blocks.proofs.Laws.{tabulate-length, tabulate-get_or, tabulate_is}
use Rattle.page_diff.specs.Diff.{digit, marked, slots_below, count_of, reserved}
use Rattle.page_diff.specs.Pack.{rank, unpack_answer, unpacked_byte, unpacked_page, Unpacks}
use Rattle.page_diff.proofs.SlotLaws.{rank_below}

-- an accepted unpack was lent as many nodes as the diff marks
unpack_counted : (ws : List ℕ) (held : ℕ) (page : List ℕ) (u : Unit {0}) → unpack_answer ws held page ≡ given u → held ≡ count_of ws
unfolding unpack_answer
unpack_counted ws held page u e = go (eqb (length page) 4096) (reserved ws) (eqb held (count_of ws)) refl e
  where
    go : (f b t : Bool) → eqb held (count_of ws) ≡ t → cond f (cond b (refused 4) (cond t (given tt) (refused 2))) (refused 2) ≡ given u → held ≡ count_of ws
    go true true t k e = absurd (given_refused u 4 (sym e))
    go true false true k e = eqb-true held (count_of ws) k
    go true false false k e = absurd (given_refused u 2 (sym e))
    go false b t k e = absurd (given_refused u 2 (sym e))

module _ (ws : List ℕ) (ns ms : List (List ℕ)) (held : ℕ) (page : List ℕ) (same : take held ns ≡ take held ms) where
  same_row : (i : ℕ) → i < held → get_or ns i [] ≡ get_or ms i []
  same_row i h = sym (get_or-take held ns i [] h) ∙ ap (λ (l : List (List ℕ)). get_or l i []) same ∙ get_or-take held ms i [] h

  same_byte : held ≡ count_of ws → (j : ℕ) → j < 4096 → unpacked_byte ws ns page j ≡ unpacked_byte ws ms page j
  same_byte c j h = go (marked ws (j / 32)) refl
    where
      go : (b : Bool) → marked ws (j / 32) ≡ b
          → cond b (get_or (get_or ns (rank ws (j / 32)) []) (j % 32) 0) (get_or page j 0) ≡ cond b (get_or (get_or ms (rank ws (j / 32)) []) (j % 32) 0) (get_or page j 0)
      go true m = ap (λ (l : List ℕ). get_or l (j % 32) 0) (same_row (rank ws (j / 32)) (omega (arith, c, rank_below ws 128 (j / 32) (omega arith) m)))
      go false m = refl

  pub unpack_ignores : unpacked_page ws ns held page ≡ unpacked_page ws ms held page
  unpack_ignores = go (unpack_answer ws held page) refl
    where
      go : (a : Answer (Unit {0})) → unpack_answer ws held page ≡ a
          → cond (accepted a) (tabulate (unpacked_byte ws ns page) 4096) page ≡ cond (accepted a) (tabulate (unpacked_byte ws ms page) 4096) page
      go (given u) e =
          tabulate_is (unpacked_byte ws ms page) 4096 (tabulate (unpacked_byte ws ns page) 4096) (tabulate-length (unpacked_byte ws ns page) 4096)
          (λ j h. tabulate-get_or (unpacked_byte ws ns page) 4096 j h ∙ same_byte (unpack_counted ws held page u e) j h)
      go (refused n) e = refl

  -- of the calls: one answer, one page
  pub unpacks_alike : (r s : Result (Unit {0}) Refusal) (out end : List ℕ) → Unpacks ws ns held page r out → Unpacks ws ms held page s end → (r ≡ s) × (out ≡ end)
  unpacks_alike r s out end p q = (answer_one r s (p.0 ∙ sym q.0), p.1 ∙ unpack_ignores ∙ sym q.1)

-- such tables, a node and then zeros or other bytes, where the call is accepted
abbrev pub table_then : ℕ → List (List ℕ)
table_then b = replicate 32 7 ∷ replicate 125 (replicate 32 b)

pub zeros_or_ones : (unpack_answer (4 ∷ 0 ∷ []) 1 (replicate 4096 5) ≡ given tt)
    × (unpacked_page (4 ∷ 0 ∷ []) (table_then 0) 1 (replicate 4096 5) ≡ unpacked_page (4 ∷ 0 ∷ []) (table_then 1) 1 (replicate 4096 5))
unfolding unpack_answer slots_below marked digit
zeros_or_ones = (refl, unpack_ignores (4 ∷ 0 ∷ []) (table_then 0) (table_then 1) 1 (replicate 4096 5) refl)
