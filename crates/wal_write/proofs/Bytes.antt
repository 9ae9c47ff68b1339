-- A record that is put part by part is put whole: its mark, the parts after it, its nodes. The mark's size m is known by an equation.
-- Assumes nothing.
use mathlib.Core.Path.{◌≡◌, refl, ap, ap₂, ◌∙◌}
use mathlib.Core.List.{List, [], ◌∷◌, ◌++◌, append_assoc}
use Prim.Native.Nat.{ℕ, ◌+◌, ◌-◌, ◌*◌, ◌≤◌}
use native.Mathlib.Omega.{arith}
use lib.ListN.{length, set, length-append, length-set}
use Rattle.blocks.specs.Blocks.{bytes_of, put, flat}
use Rattle.blocks.proofs.Parts.{set-put, put_then}
use Rattle.page_diff.specs.Diff.{bytes_of_words}
use Rattle.wal.specs.Log.{clear, update, mark, mark_size, seed_part, seed_size, start_record, record_of}
use Rattle.wal.specs.Run.{WideStart}
use Rattle.wal.specs.declared.Edition.{Edition}
use Rattle.wal.specs.declared.Edition.TheVariants.{One, Two}
use Rattle.wal.specs.declared.Start.{Start}
use Rattle.wal.proofs.Records.{mark-length, mark_small}
use Rattle.wal.proofs.RoundTrip.{seed-length}

module _ (ed : Edition) (m : ℕ) (sized : m ≡ mark_size ed) (s : List ℕ) (at : ℕ) where
  -- a mark, and what stands after it
  pub put_marked : (tag : ℕ) (bs : List ℕ) → at + m + length bs ≤ length s → put (put s at (mark ed tag)) (at + m) bs ≡ put s at (mark ed tag ++ bs)
  put_marked tag bs h = put_then s at (at + m) (mark ed tag) bs (omega (arith, mark-length ed tag)) h

  pub put_clear : (b : ℕ) → at + m + 8 ≤ length s → put (put s at (mark ed 3)) (at + m) (bytes_of 8 b) ≡ put s at (record_of ed (clear b))
  unfolding record_of
  put_clear b h = put_marked 3 (bytes_of 8 b) h

-- two bytes stored are two bytes put
pub set_two : (s : List ℕ) (at x y : ℕ) → at + 2 ≤ length s → set (set s at x) (at + 1) y ≡ put s at (x ∷ y ∷ [])
set_two s at x y h =
    set-put (set s at x) (at + 1) y (omega (arith, length-set s at x)) ∙ ap (λ (l : List ℕ). put l (at + 1) (y ∷ [])) (set-put s at x (omega arith))
    ∙ put_then s at (at + 1) (x ∷ []) (y ∷ []) refl (omega arith)

-- a start: mark, sync number, and the seed of edition two
seed_small : (ed : Edition) → seed_size ed ≤ 16
seed_small One = omega arith
seed_small Two = omega arith

pub put_start_lem : (start : Start) (m : ℕ) → m ≡ mark_size start.edition → WideStart start → (s : List ℕ) → 22 ≤ length s
    → put (put (put s 0 (mark start.edition 1)) m (bytes_of 4 start.sync)) (m + 4) (seed_part start.edition start.seed) ≡ put s 0 (start_record start)
put_start_lem start m sized wide s h =
    let ed : Edition = start.edition in
    let number : List ℕ = bytes_of 4 start.sync in
    let long : length number ≡ 4 = refl in
    ap (λ (l : List ℕ). put l (m + 4) (seed_part ed start.seed)) (put_then s 0 m (mark ed 1) number (omega (arith, mark-length ed 1)) (omega (arith, mark_small ed)))
    ∙ put_then s 0 (m + 4) (mark ed 1 ++ number) (seed_part ed start.seed) (omega (arith, length-append (mark ed 1) number, mark-length ed 1)) (omega (arith, mark_small ed, seed-length start wide, seed_small ed))
    ∙ ap (put s 0) (append_assoc (mark ed 1) number (seed_part ed start.seed))

-- ---- an update: head, nodes, tail
words-length : (ws : List ℕ) → length (bytes_of_words ws) ≡ 16
words-length ws = refl

abbrev pub head_of : Edition → List ℕ → List ℕ → List ℕ
head_of ed id ws = mark ed 4 ++ (id ++ bytes_of_words ws)

pub head-length : (ed : Edition) (id ws : List ℕ) → length id ≡ 32 → length (head_of ed id ws) ≡ mark_size ed + 48
head-length ed id ws e = omega (arith, length-append (mark ed 4) (id ++ bytes_of_words ws), mark-length ed 4, length-append id (bytes_of_words ws), words-length ws)

module _ (ed : Edition) (m : ℕ) (sized : m ≡ mark_size ed) (s : List ℕ) (at : ℕ) (id ws : List ℕ) (id_long : length id ≡ 32) where
  pub put_head : at + m + 48 ≤ length s → put (put (put s at (mark ed 4)) (at + m) id) (at + m + 32) (bytes_of_words ws) ≡ put s at (head_of ed id ws)
  put_head h =
      ap (λ (l : List ℕ). put l (at + m + 32) (bytes_of_words ws)) (put_marked ed m sized s at 4 id (omega arith))
      ∙ put_then s at (at + m + 32) (mark ed 4 ++ id) (bytes_of_words ws) (omega (arith, length-append (mark ed 4) id, mark-length ed 4)) (omega (arith, words-length ws))
      ∙ ap (put s at) (append_assoc (mark ed 4) id (bytes_of_words ws))

  pub put_update : (ns : List (List ℕ)) (elided : List ℕ) (b c : ℕ) → length (flat ns) ≡ 32 * c → length elided ≡ 8 → at + (m + (64 + 32 * c)) ≤ length s
      → put (put (put s at (head_of ed id ws)) (at + m + 48) (flat ns)) (at + (m + (64 + 32 * c) - 16)) (elided ++ bytes_of 8 b) ≡ put s at (record_of ed (update id ws ns elided b))
  unfolding record_of
  put_update ns elided b c n e h =
      let tail : List ℕ = elided ++ bytes_of 8 b in
      let long : length tail ≡ 16 = length-append elided (bytes_of 8 b) ∙ ap₂ (λ (x y : ℕ). x + y) e refl in
      let front : length (head_of ed id ws) ≡ m + 48 = omega (arith, head-length ed id ws id_long) in
      ap (λ (l : List ℕ). put l (at + (m + (64 + 32 * c) - 16)) tail) (put_then s at (at + m + 48) (head_of ed id ws) (flat ns) (omega arith) (omega arith))
      ∙ put_then s at (at + (m + (64 + 32 * c) - 16)) (head_of ed id ws ++ flat ns) tail (omega (arith, length-append (head_of ed id ws) (flat ns))) (omega arith)
      ∙ ap (put s at)
      (append_assoc (head_of ed id ws) (flat ns) tail ∙ append_assoc (mark ed 4) (id ++ bytes_of_words ws) (flat ns ++ tail) ∙ ap (λ (l : List ℕ). mark ed 4 ++ l) (append_assoc id (bytes_of_words ws) (flat ns ++ tail)))
