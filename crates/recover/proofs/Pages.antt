-- An update on its page: the marked slots out of the log, then the last 40 bytes. Assumes nothing.
use mathlib.Core.Path.{◌≡◌, sym, ap, ap₂, ◌∙◌}
use mathlib.Core.Bool.{Bool, cond, ◌||◌, or-true, or-false}
use mathlib.Core.List.{List, [], ◌++◌}
use Prim.Native.Nat.{ℕ, zero, suc, ◌+◌, ◌-◌, ◌*◌, ◌/◌, ◌%◌, ◌≤◌, ◌<◌}
use native.Mathlib.Nat.{lt_of_not-le}
use native.Mathlib.Decide.{dec_le}
use native.Mathlib.Omega.{arith}
use lib.Dec.{leb}
use lib.ListN.{length, get_or, length-append, get_or-append}
use lib.Seq.{get_or-append-add}
use borrow.Author.Tests.{le-leb, lt-leb}
use Rattle.blocks.specs.Blocks.{block, put, tabulate}
use Rattle.blocks.proofs.Laws.{put_in, put_left, put-length, tabulate-length, tabulate-get_or, tabulate_is}
use Rattle.page_diff.specs.Diff.{marked}
use Rattle.page_diff.specs.Pack.{rank, unpacked_byte}
use Rattle.wal.specs.Reader.{nodes_from}
use Rattle.recover.specs.Places.{page_named, page_gives, page_after}

-- node k of those that stand in the log from p on
pub nodes_at_lem : (log : List ℕ) (p c k : ℕ) → k < c → get_or (nodes_from log p c) k [] ≡ block 32 log (p + 32 * k)
unfolding nodes_from
nodes_at_lem log p zero k h = absurd (omega arith)
nodes_at_lem log p (suc c) zero h = let e : p ≡ p + 32 * 0 = omega arith in ap (block 32 log) e
nodes_at_lem log p (suc c) (suc k) h =
    let e : p + 32 + 32 * k ≡ p + 32 * suc k = omega arith in
    nodes_at_lem log (p + 32) c k (omega arith) ∙ ap (block 32 log) e

-- the slots are put, and then the last 40 bytes over them
module _ (id ws : List ℕ) (ns : List (List ℕ)) (el page : List ℕ) (eight : length el ≡ 8) (long : length id ≡ 32) where
  slots_long : length (tabulate (unpacked_byte ws ns page) 4096) ≡ 4096
  slots_long = tabulate-length (unpacked_byte ws ns page) 4096

  label_long : length (el ++ id) ≡ 40
  label_long = omega (arith, length-append el id)

  -- a byte of the last 40
  label_byte : (o : ℕ) → 4056 ≤ o → o < 4096 → get_or (el ++ id) (o - 4056) 0 ≡ page_gives id ws ns el o
  label_byte o h k = go (dec_le 4064 o)
    where
      go : Dec (4064 ≤ o) → get_or (el ++ id) (o - 4056) 0 ≡ page_gives id ws ns el o
      go (yes p) =
          let e : o - 4056 ≡ length el + (o - 4064) = omega arith in
          ap (λ (i : ℕ). get_or (el ++ id) i 0) e ∙ get_or-append-add el id (o - 4064) 0
          ∙ sym (ap (λ (t : Bool). cond t (get_or id (o - 4064) 0) (cond (leb 4056 o) (get_or el (o - 4056) 0) (get_or (get_or ns (rank ws (o / 32)) []) (o % 32) 0))) (le-leb 4064 o p))
      go (no p) =
          get_or-append el id 0 (o - 4056) (omega arith)
          ∙ sym (ap₂ (λ (t u : Bool). cond t (get_or id (o - 4064) 0) (cond u (get_or el (o - 4056) 0) (get_or (get_or ns (rank ws (o / 32)) []) (o % 32) 0))) (lt-leb 4064 o (lt_of_not-le p)) (le-leb 4056 o h))

  -- a byte before them
  slot_byte : (o : ℕ) → o < 4056 → unpacked_byte ws ns page o ≡ cond (page_named ws o) (page_gives id ws ns el o) (get_or page o 0)
  slot_byte o h =
      ap (λ (v : ℕ). cond (marked ws (o / 32)) v (get_or page o 0))
      (sym (ap₂ (λ (t u : Bool). cond t (get_or id (o - 4064) 0) (cond u (get_or el (o - 4056) 0) (get_or (get_or ns (rank ws (o / 32)) []) (o % 32) 0))) (lt-leb 4064 o (omega arith)) (lt-leb 4056 o h)))
      ∙ ap (λ (t : Bool). cond t (page_gives id ws ns el o) (get_or page o 0)) (sym (ap (λ (u : Bool). marked ws (o / 32) || u) (lt-leb 4056 o h) ∙ or-false (marked ws (o / 32))))

  pub page_done : put (tabulate (unpacked_byte ws ns page) 4096) 4056 (el ++ id) ≡ page_after id ws ns el page
  page_done =
      let out : List ℕ = put (tabulate (unpacked_byte ws ns page) 4096) 4056 (el ++ id) in
      tabulate_is (λ o. cond (page_named ws o) (page_gives id ws ns el o) (get_or page o 0)) 4096 out
      (put-length (tabulate (unpacked_byte ws ns page) 4096) 4056 (el ++ id) ∙ slots_long) (λ o h. go o h (dec_le 4056 o))
    where
      go : (o : ℕ) → o < 4096 → Dec (4056 ≤ o) → get_or (put (tabulate (unpacked_byte ws ns page) 4096) 4056 (el ++ id)) o 0 ≡ cond (page_named ws o) (page_gives id ws ns el o) (get_or page o 0)
      go o h (yes p) =
          put_in (tabulate (unpacked_byte ws ns page) 4096) 4056 (el ++ id) o (omega (arith, label_long, slots_long)) p (omega (arith, label_long)) ∙ label_byte o p h
          ∙ sym (ap (λ (t : Bool). cond t (page_gives id ws ns el o) (get_or page o 0)) (ap (λ (u : Bool). marked ws (o / 32) || u) (le-leb 4056 o p) ∙ or-true (marked ws (o / 32))))
      go o h (no p) =
          put_left (tabulate (unpacked_byte ws ns page) 4096) 4056 (el ++ id) o (lt_of_not-le p) ∙ tabulate-get_or (unpacked_byte ws ns page) 4096 o h ∙ slot_byte o (lt_of_not-le p)
