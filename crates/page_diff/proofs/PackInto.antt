-- Packing into lent memory, test by test, and the bytes that it leaves. Assumes nothing.
use mathlib.Core.Path.{◌≡◌, sym, ap, ◌∙◌}
use mathlib.Core.Bool.{true, false, cond}
use mathlib.Core.List.{List, ◌++◌, map}
use Prim.Native.Nat.{ℕ, ◌-◌, ◌*◌, ◌≤◌}
use native.Mathlib.Omega.{arith}
use lib.ListN.{length, replicate, length-replicate}
use borrow.Author.Tests.{eq-eqb, ne_eqb}
use Rattle.answers.specs.Answers.{Answer, given, refused, accepted}
use Rattle.blocks.specs.Blocks.{put, flat}
use Rattle.blocks.proofs.Laws.{put_both}
use Rattle.page_diff.specs.Diff.{slots, count_of, reserved}
use Rattle.page_diff.specs.Pack.{node_at, table_of, pack_into_answer, packed_into}
use Rattle.page_diff.proofs.Walk.{plain_count}
use Rattle.page_diff.proofs.Nodes.{page_nodes-length, table_bytes}

module _ (ws page nodes : List ℕ) where
  pub into_page : (length page ≡ 4096 → ⊥) → pack_into_answer ws page nodes ≡ refused 2
  unfolding pack_into_answer
  into_page h = simp (ne_eqb (length page) 4096 h)

  pub into_marks : length page ≡ 4096 → reserved ws ≡ true → pack_into_answer ws page nodes ≡ refused 4
  unfolding pack_into_answer
  into_marks e r = simp (eq-eqb (length page) 4096 e, r)

  pub into_memory : length page ≡ 4096 → reserved ws ≡ false → (length nodes ≡ 4032 → ⊥) → pack_into_answer ws page nodes ≡ refused 2
  unfolding pack_into_answer
  into_memory e r h = simp (eq-eqb (length page) 4096 e, r, ne_eqb (length nodes) 4032 h)

  pub into_done : length page ≡ 4096 → reserved ws ≡ false → length nodes ≡ 4032 → pack_into_answer ws page nodes ≡ given (count_of ws)
  unfolding pack_into_answer
  into_done e r h = simp (eq-eqb (length page) 4096 e, r, eq-eqb (length nodes) 4032 h)

  -- a refusal leaves the memory
  pub into_left : (k : ℕ) → pack_into_answer ws page nodes ≡ refused k → nodes ≡ packed_into ws page nodes
  into_left k e = sym (ap (λ (a : Answer ℕ). cond (accepted a) (flat (table_of page (slots ws))) nodes) e)

  -- the nodes put at the front and zeros after them are the table
  pub into_bytes : (used : ℕ) → used ≡ 32 * count_of ws → length page ≡ 4096 → reserved ws ≡ false → length nodes ≡ 4032
      → put (put nodes 0 (flat (map (node_at page) (slots ws)))) used (replicate (4032 - used) 0) ≡ packed_into ws page nodes
  into_bytes used u e r h =
      let front : List ℕ = flat (map (node_at page) (slots ws)) in
      let long : length front ≡ 32 * count_of ws = page_nodes-length page (slots ws) in
      let few : count_of ws ≤ 126 = plain_count ws r in
      let zeros : length (replicate {A = ℕ} (4032 - used) 0) ≡ 4032 - used = length-replicate (4032 - used) 0 in
      put_both nodes front (replicate (4032 - used) 0) used (omega (arith, u, long)) (omega (arith, u, long, few, zeros, h))
      ∙ ap (λ (k : ℕ). front ++ replicate k 0) {x = 4032 - used} {y = 32 * (126 - count_of ws)} (omega (arith, u, few)) ∙ sym (table_bytes page (slots ws))
      ∙ sym (ap (λ (a : Answer ℕ). cond (accepted a) (flat (table_of page (slots ws))) nodes) (into_done e r h))
