-- What is known of an entry that is read, where it goes on, and what the reading of a log is at each kind of record. Assumes nothing.
use mathlib.Core.Path.{◌≡◌, refl, sym, ap, ◌∙◌, subst}
use mathlib.Core.Bool.{Bool, true, false}
use mathlib.Core.List.{List}
use Prim.Native.Nat.{ℕ, zero, suc, ◌+◌, ◌*◌, ◌≤◌}
use native.Mathlib.Nat.{lt_of_not-le}
use native.Mathlib.Decide.{dec_le}
use native.Mathlib.Omega.{arith}
use lib.Dec.{eqb}
use lib.ListN.{length}
use borrow.Author.Tests.{eqb-true, eqb-false}
use Rattle.answers.specs.Answers.{Answer, given, refused}
use Rattle.blocks.specs.Blocks.{le, block}
use Rattle.page_diff.specs.Diff.{count_of, reserved}
use Rattle.page_diff.proofs.Walk.{plain_count}
use Rattle.wal.specs.Log.{Entry, clear, update, mark_size, update_body, clear_size, update_size}
use Rattle.wal.specs.Reader.{Next, next, ended, stopped, nodes_from, diff_at, update_of, by_tag, tag_at, next_at, wanted, on_end, next_by, Reading, stop_at, and_then, read_on, read_in, read_by, read_from}
use Rattle.wal.specs.declared.AfterEnd.{AfterEnd}
use Rattle.wal.specs.declared.Edition.{Edition}
use Rattle.wal.proofs.Records.{mark_some}
use Rattle.wal_read.specs.Head.{a_clear, an_update, the_end, a_refusal, head_of}
use Rattle.wal_read.proofs.NextLaws.{mark_within, by_unknown, by_clear_cut, by_clear, by_diff_cut, by_reserved, by_update_cut, by_update, next_unmarked, next_past, next_tagged}
use Rattle.wal_read.proofs.Nodes.{nodes-length}

-- ---- what can stand at a position
pub data Stands (ed : Edition) (log : List ℕ) (at : ℕ) : Next → Type 0 where
  a_clear_lem : at + mark_size ed + 8 ≤ length log → Stands ed log at (next (clear (le (block 8 log (at + mark_size ed)))) (at + mark_size ed + 8))
  an_update_lem : reserved (diff_at log (at + mark_size ed)) ≡ false → at + mark_size ed + update_body (count_of (diff_at log (at + mark_size ed))) ≤ length log → Stands ed log at (next (update_of log (at + mark_size ed)) (at + mark_size ed + update_body (count_of (diff_at log (at + mark_size ed)))))
  an_end : at + mark_size ed ≤ length log → Stands ed log at ended
  a_stop : (n : ℕ) → Stands ed log at (stopped n)

module _ (ed : Edition) (log : List ℕ) (at : ℕ) where
  stop : {m : Next} (n : ℕ) → m ≡ stopped n → Stands ed log at m
  stop n e = subst (Stands ed log at) (sym e) (a_stop n)

  abbrev body : ℕ
  body = at + mark_size ed

  update_stands : Stands ed log at (by_tag 4 log (at + mark_size ed))
  update_stands = go (dec_le (body + 48) (length log)) (reserved (diff_at log body)) refl (dec_le (body + update_body (count_of (diff_at log body))) (length log))
    where
      go : Dec (body + 48 ≤ length log) → (b : Bool) → reserved (diff_at log body) ≡ b → Dec (body + update_body (count_of (diff_at log body)) ≤ length log) → Stands ed log at (by_tag 4 log body)
      go (no p) b r q = stop 6 (by_diff_cut log body (lt_of_not-le p))
      go (yes p) true r q = stop 4 (by_reserved log body p r)
      go (yes p) false r (no q) = stop 6 (by_update_cut log body p r (lt_of_not-le q))
      go (yes p) false r (yes q) = subst (Stands ed log at) (sym (by_update log body r q)) (an_update_lem r q)

  tag_stands : (t : ℕ) → at + mark_size ed ≤ length log → Stands ed log at (by_tag t log (at + mark_size ed))
  tag_stands t h = go (eqb t 2) (eqb t 3) (eqb t 4) refl refl refl (dec_le (body + 8) (length log))
    where
      of : (k : ℕ) → eqb t k ≡ true → Stands ed log at (by_tag k log body) → Stands ed log at (by_tag t log body)
      of k e = subst (λ (j : ℕ). Stands ed log at (by_tag j log body)) (sym (eqb-true t k e))

      go : (a b c : Bool) → eqb t 2 ≡ a → eqb t 3 ≡ b → eqb t 4 ≡ c → Dec (body + 8 ≤ length log) → Stands ed log at (by_tag t log body)
      go true b c x y z q = of 2 x (an_end h)
      go false true c x y z (yes q) = of 3 y (subst (Stands ed log at) (sym (by_clear log body q)) (a_clear_lem q))
      go false true c x y z (no q) = of 3 y (stop 6 (by_clear_cut log body (lt_of_not-le q)))
      go false false true x y z q = of 4 z update_stands
      go false false false x y z q = stop 8 (by_unknown log body t (eqb-false t 2 x) (eqb-false t 3 y) (eqb-false t 4 z))

  at_stands : Stands ed log at (next_at ed log at)
  at_stands = go (tag_at ed log at) refl
    where
      go : (a : Answer ℕ) → tag_at ed log at ≡ a → Stands ed log at (next_at ed log at)
      go (given t) e = subst (Stands ed log at) (sym (next_tagged ed log at t e)) (tag_stands t (mark_within ed log at t e))
      go (refused n) e = stop n (next_unmarked ed log at n e)

  -- where something else is wanted after end, 27 stands in place of end
  end_stands : (t : Bool) (n : Next) → Stands ed log at n → Stands ed log at (on_end t n)
  end_stands true n s = s
  end_stands false n (a_clear_lem l) = a_clear_lem l
  end_stands false n (an_update_lem r l) = an_update_lem r l
  end_stands false n (an_end l) = a_stop 27
  end_stands false n (a_stop k) = a_stop k

pub stands : (rule : AfterEnd) (ed : Edition) (log : List ℕ) (at : ℕ) → Stands ed log at (next_by rule ed log at)
stands rule ed log at = end_stands ed log at (wanted rule log (at + mark_size ed)) (next_at ed log at) (at_stands ed log at)

-- the mark of end is inside the log
pub end_within : (ed : Edition) (log : List ℕ) (at : ℕ) → next_at ed log at ≡ ended → at + mark_size ed ≤ length log
end_within ed log at h = go (next_at ed log at) (at_stands ed log at) h
  where
    go : (n : Next) → Stands ed log at n → n ≡ ended → at + mark_size ed ≤ length log
    go n (a_clear_lem l) h = let z : ◌≡◌ {A = ℕ} 0 1 = cc in absurd (omega arith)
    go n (an_update_lem r l) h = let z : ◌≡◌ {A = ℕ} 0 1 = cc in absurd (omega arith)
    go n (an_end l) h = l
    go n (a_stop k) h = let z : ◌≡◌ {A = ℕ} 0 1 = cc in absurd (omega arith)

-- ---- an entry moves the position on by its size, and stays within the log
pub record Moved (log : List ℕ) (at p : ℕ) : Type 0 where
  pub on : at + 9 ≤ p
  pub within : p ≤ length log

pub moves : (rule : AfterEnd) (ed : Edition) (log : List ℕ) (at : ℕ) (e : Entry) (p : ℕ) → next_by rule ed log at ≡ next e p → Moved log at p
moves rule ed log at e p h = go (next_by rule ed log at) (stands rule ed log at) h
  where
    go : (n : Next) → Stands ed log at n → n ≡ next e p → Moved log at p
    go n (a_clear_lem l) h = let q : p ≡ at + mark_size ed + 8 = cc in record { on = omega (arith, mark_some ed); within = omega arith }
    go n (an_update_lem r l) h = let q : p ≡ at + mark_size ed + update_body (count_of (diff_at log (at + mark_size ed))) = cc in record { on = omega (arith, mark_some ed); within = omega arith }
    go n (an_end l) h = let z : ◌≡◌ {A = ℕ} 0 1 = cc in absurd (omega arith)
    go n (a_stop k) h = let z : ◌≡◌ {A = ℕ} 0 1 = cc in absurd (omega arith)

pub clear_moves : (rule : AfterEnd) (ed : Edition) (log : List ℕ) (at b p : ℕ) → next_by rule ed log at ≡ next (clear b) p → p ≡ at + clear_size ed
unfolding update_of
clear_moves rule ed log at b p h = go (next_by rule ed log at) (stands rule ed log at) h
  where
    go : (n : Next) → Stands ed log at n → n ≡ next (clear b) p → p ≡ at + clear_size ed
    go n (a_clear_lem l) h = let q : p ≡ at + mark_size ed + 8 = cc in omega arith
    go n (an_update_lem r l) h = let z : ◌≡◌ {A = ℕ} 0 1 = cc in absurd (omega arith)
    go n (an_end l) h = let z : ◌≡◌ {A = ℕ} 0 1 = cc in absurd (omega arith)
    go n (a_stop k) h = let z : ◌≡◌ {A = ℕ} 0 1 = cc in absurd (omega arith)

-- of an update: as many nodes as its diff has marks, none of them reserved, and the size by that
pub record Sized (ed : Edition) (log : List ℕ) (at : ℕ) (ws : List ℕ) (ns : List (List ℕ)) (p : ℕ) : Type 0 where
  pub plain : reserved ws ≡ false
  pub few : count_of ws ≤ 126
  pub nodes : length ns ≡ count_of ws
  pub after : p ≡ at + update_size ed (count_of ws)

pub update_moves : (rule : AfterEnd) (ed : Edition) (log : List ℕ) (at : ℕ) (id ws : List ℕ) (ns : List (List ℕ)) (elided : List ℕ) (b p : ℕ) → next_by rule ed log at ≡ next (update id ws ns elided b) p → Sized ed log at ws ns p
unfolding update_of
update_moves rule ed log at id ws ns elided b p h = go (next_by rule ed log at) (stands rule ed log at) h
  where
    go : (n : Next) → Stands ed log at n → n ≡ next (update id ws ns elided b) p → Sized ed log at ws ns p
    go n (a_clear_lem l) h = let z : ◌≡◌ {A = ℕ} 0 1 = cc in absurd (omega arith)
    go n (an_update_lem r l) h =
        let e : ws ≡ diff_at log (at + mark_size ed) = cc in
        let f : ns ≡ nodes_from log (at + mark_size ed + 48) (count_of (diff_at log (at + mark_size ed))) = cc in
        let g : p ≡ at + mark_size ed + update_body (count_of (diff_at log (at + mark_size ed))) = cc in
        record {
          plain = ap reserved e ∙ r;
          few = omega (arith, ap count_of e, plain_count (diff_at log (at + mark_size ed)) r);
          nodes = ap length f ∙ nodes-length log (at + mark_size ed + 48) (count_of (diff_at log (at + mark_size ed))) ∙ sym (ap count_of e);
          after = omega (arith, g, ap count_of e);
        }
    go n (an_end l) h = let z : ◌≡◌ {A = ℕ} 0 1 = cc in absurd (omega arith)
    go n (a_stop k) h = let z : ◌≡◌ {A = ℕ} 0 1 = cc in absurd (omega arith)

-- ---- the head tells what stands there
pub head_end : (n : Next) → the_end ≡ head_of n → n ≡ ended
head_end (next (clear b) p) h = let z : ◌≡◌ {A = ℕ} 0 1 = cc in absurd (omega arith)
head_end (next (update id ws ns elided b) p) h = let z : ◌≡◌ {A = ℕ} 0 1 = cc in absurd (omega arith)
head_end ended h = refl
head_end (stopped n) h = let z : ◌≡◌ {A = ℕ} 0 1 = cc in absurd (omega arith)

pub head_stop : (n : Next) (k : ℕ) → a_refusal k ≡ head_of n → n ≡ stopped k
head_stop (next (clear b) p) k h = let z : ◌≡◌ {A = ℕ} 0 1 = cc in absurd (omega arith)
head_stop (next (update id ws ns elided b) p) k h = let z : ◌≡◌ {A = ℕ} 0 1 = cc in absurd (omega arith)
head_stop ended k h = let z : ◌≡◌ {A = ℕ} 0 1 = cc in absurd (omega arith)
head_stop (stopped n) k h = let e : n ≡ k = cc in ap stopped e

pub head_clear : (n : Next) (b p : ℕ) → a_clear b p ≡ head_of n → n ≡ next (clear b) p
head_clear (next (clear a) q) b p h = let e : a ≡ b = cc in let f : q ≡ p = cc in cc
head_clear (next (update id ws ns elided a) q) b p h = let z : ◌≡◌ {A = ℕ} 0 1 = cc in absurd (omega arith)
head_clear ended b p h = let z : ◌≡◌ {A = ℕ} 0 1 = cc in absurd (omega arith)
head_clear (stopped n) b p h = let z : ◌≡◌ {A = ℕ} 0 1 = cc in absurd (omega arith)

-- of an update, with all of it in the log
pub record There (rule : AfterEnd) (ed : Edition) (log : List ℕ) (at b c p : ℕ) : Type 0 where
  pub here : next_by rule ed log at ≡ next (update_of log (at + mark_size ed)) p
  pub bucket : b ≡ le (block 8 log (at + mark_size ed + 56 + 32 * c))
  pub plain : reserved (diff_at log (at + mark_size ed)) ≡ false
  pub count : c ≡ count_of (diff_at log (at + mark_size ed))
  pub few : c ≤ 126
  pub after : p ≡ at + update_size ed c
  pub within : at + update_size ed c ≤ length log

pub head_update : (rule : AfterEnd) (ed : Edition) (log : List ℕ) (at b c p : ℕ) → an_update b c p ≡ head_of (next_by rule ed log at) → There rule ed log at b c p
unfolding update_of
head_update rule ed log at b c p h = go (next_by rule ed log at) (stands rule ed log at) refl h
  where
    go : (n : Next) → Stands ed log at n → next_by rule ed log at ≡ n → an_update b c p ≡ head_of n → There rule ed log at b c p
    go n (a_clear_lem l) i h = let z : ◌≡◌ {A = ℕ} 0 1 = cc in absurd (omega arith)
    go n (an_update_lem r l) i h =
        let e : c ≡ count_of (diff_at log (at + mark_size ed)) = cc in
        let f : b ≡ le (block 8 log (at + mark_size ed + 56 + 32 * count_of (diff_at log (at + mark_size ed)))) = cc in
        let g : p ≡ at + mark_size ed + update_body (count_of (diff_at log (at + mark_size ed))) = cc in
        record {
          here = i ∙ sym (ap (next (update_of log (at + mark_size ed))) g);
          bucket = f ∙ sym (ap (λ (k : ℕ). le (block 8 log (at + mark_size ed + 56 + 32 * k))) e);
          plain = r;
          count = e;
          few = omega (arith, plain_count (diff_at log (at + mark_size ed)) r);
          after = omega arith;
          within = omega arith;
        }
    go n (an_end l) i h = let z : ◌≡◌ {A = ℕ} 0 1 = cc in absurd (omega arith)
    go n (a_stop k) i h = let z : ◌≡◌ {A = ℕ} 0 1 = cc in absurd (omega arith)

-- ---- the whole reading
-- both ways read alike where an entry's rest does
alike : (rule : AfterEnd) (ed : Edition) (log : List ℕ) (at : ℕ) (f g : ℕ → Reading) → ((e : Entry) (p : ℕ) → next_by rule ed log at ≡ next e p → f p ≡ g p) → (n : Next) → next_by rule ed log at ≡ n → read_on n at f ≡ read_on n at g
alike rule ed log at f g same (next e p) h = ap (and_then e) (same e p h)
alike rule ed log at f g same ended h = refl
alike rule ed log at f g same (stopped k) h = refl

past : (rule : AfterEnd) (ed : Edition) (log : List ℕ) (at : ℕ) → length log ≤ at → next_by rule ed log at ≡ stopped 6
past rule ed log at h = ap (on_end (wanted rule log (at + mark_size ed))) (next_past ed log at h) ∙ stays (wanted rule log (at + mark_size ed))
  where
    stays : (t : Bool) → on_end t (stopped 6) ≡ stopped 6
    stays true = refl
    stays false = refl

-- fuel above the bytes that are left changes nothing
pub read_enough : (rule : AfterEnd) (ed : Edition) (f g : ℕ) (log : List ℕ) (at : ℕ) → length log ≤ at + f → length log ≤ at + g → read_in rule ed f log at ≡ read_in rule ed g log at
unfolding read_by
read_enough rule ed zero zero log at p q = refl
read_enough rule ed zero (suc g) log at p q =
    let s = past rule ed log at (omega arith) in
    ap (λ (n : Next). read_on n at (λ r. stop_at r (refused 6))) s ∙ sym (ap (λ (n : Next). read_on n at (λ r. read_in rule ed g log r)) s)
read_enough rule ed (suc f) zero log at p q =
    let s = past rule ed log at (omega arith) in
    ap (λ (n : Next). read_on n at (λ r. read_in rule ed f log r)) s ∙ sym (ap (λ (n : Next). read_on n at (λ r. stop_at r (refused 6))) s)
read_enough rule ed (suc f) (suc g) log at p q =
    alike rule ed log at (λ r. read_in rule ed f log r) (λ r. read_in rule ed g log r) (λ e r h. let m = moves rule ed log at e r h in read_enough rule ed f g log r (omega arith) (omega arith)) (next_by rule ed log at) refl

read_by_lem : (rule : AfterEnd) (ed : Edition) (f : ℕ) (log : List ℕ) (at : ℕ) → length log ≤ at + f → read_from rule ed log at ≡ read_in rule ed (suc f) log at
read_by_lem rule ed f log at h = read_enough rule ed (length log) (suc f) log at (omega arith) (omega arith)

pub read_entry_lem : (rule : AfterEnd) (ed : Edition) (log : List ℕ) (at : ℕ) (e : Entry) (p : ℕ) → next_by rule ed log at ≡ next e p → read_from rule ed log at ≡ and_then e (read_from rule ed log p)
unfolding read_by
read_entry_lem rule ed log at e p h = read_by_lem rule ed (length log) log at (omega arith) ∙ ap (λ (n : Next). read_on n at (λ r. read_in rule ed (length log) log r)) h

pub read_end : (rule : AfterEnd) (ed : Edition) (log : List ℕ) (at : ℕ) → next_by rule ed log at ≡ ended → read_from rule ed log at ≡ stop_at at (given tt)
unfolding read_by
read_end rule ed log at h = read_by_lem rule ed (length log) log at (omega arith) ∙ ap (λ (n : Next). read_on n at (λ r. read_in rule ed (length log) log r)) h

pub read_stop : (rule : AfterEnd) (ed : Edition) (log : List ℕ) (at k : ℕ) → next_by rule ed log at ≡ stopped k → read_from rule ed log at ≡ stop_at at (refused k)
unfolding read_by
read_stop rule ed log at k h = read_by_lem rule ed (length log) log at (omega arith) ∙ ap (λ (n : Next). read_on n at (λ r. read_in rule ed (length log) log r)) h
