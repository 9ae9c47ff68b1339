-- The check of a whole log, entry by entry: what is left of the log answers what the whole does. Assumes nothing.
use mathlib.Core.Path.{◌≡◌, refl, sym, ap, ap₂, ◌∙◌}
use mathlib.Core.Bool.{Bool, cond, ◌&&◌}
use mathlib.Core.List.{List}
use Prim.Native.Nat.{ℕ, ◌+◌, ◌*◌, ◌≤◌, ◌<◌}
use native.Mathlib.Nat.{add_assoc}
use native.Mathlib.Omega.{arith}
use borrow.Author.Tests.{lt-ltb, le-ltb}
use Rattle.std.specs.Prelude.{Ok}
use Rattle.answers.specs.Answers.{Answer, given, refused}
use Rattle.blocks.specs.Blocks.{le, block}
use Rattle.wal.specs.Log.{Entry, clear, update, mark_size}
use Rattle.wal.specs.Reader.{edition_at, diff_at, nodes_from, update_of, next, next_by, Reading, stop_at, and_then, read_from, read_log}
use Rattle.wal_read.specs.Head.{the_end, a_refusal, head_of, head_said}
use Rattle.wal_read.specs.declared.Head.{Head}
use Rattle.wal_read.specs.declared.Head.TheVariants as head
use Rattle.wal_read.proofs.ReadLaws.{There, head_clear, head_update, head_end, head_stop, read_entry_lem, read_end, read_stop}
use Rattle.wal.specs.declared.AfterEnd.{AfterEnd}
use Rattle.wal.specs.declared.Edition.{Edition}
use Rattle.recover.specs.Replay.{bucket_of, all_inside, one_update, updates_in, after_entries, check_answer, updated, went_to, hashes_fit}

-- at the head of the loop: so many updates are read, and the entries before `at` are inside the table
pub record CheckState (rule : AfterEnd) (n : ℕ) (log : List ℕ) (at updates : ℕ) : Type 0 where
  pub inside : all_inside n (read_log rule log).entries ≡ all_inside n (read_from rule (edition_at log) log at).entries
  pub stop : (read_log rule log).stop ≡ (read_from rule (edition_at log) log at).stop
  pub count : updates_in (read_log rule log).entries ≡ updates + updates_in (read_from rule (edition_at log) log at).entries
  pub few : updates ≤ at

module _ (rule : AfterEnd) (n : ℕ) (log : List ℕ) (at updates : ℕ) (st : CheckState rule n log at updates) where
  -- an entry inside the table
  pub check_entry : (e : Entry) (p : ℕ) → next_by rule (edition_at log) log at ≡ next e p → bucket_of e < n → at + 9 ≤ p → CheckState rule n log p (updates + one_update e)
  unfolding all_inside updates_in
  check_entry e p h l moved =
      let r : read_from rule (edition_at log) log at ≡ and_then e (read_from rule (edition_at log) log p) = read_entry_lem rule (edition_at log) log at e p h in
      record {
        inside = st.inside ∙ ap (λ (x : Reading). all_inside n x.entries) r ∙ ap (λ (t : Bool). t && all_inside n (read_from rule (edition_at log) log p).entries) (lt-ltb (bucket_of e) n l);
        stop = st.stop ∙ ap (λ (x : Reading). x.stop) r;
        count = st.count ∙ ap (λ (x : Reading). updates + updates_in x.entries) r ∙ sym (add_assoc updates (one_update e) (updates_in (read_from rule (edition_at log) log p).entries));
        few = omega (arith, st.few, one_update_lem e);
      }
    where
      one_update_lem : (x : Entry) → one_update x ≤ 1
      one_update_lem (clear b) = omega arith
      one_update_lem (update id ws ns el b) = omega arith

  -- an entry outside it
  pub check_outside : (hashes : ℕ) (e : Entry) (p : ℕ) → next_by rule (edition_at log) log at ≡ next e p → n ≤ bucket_of e → check_answer rule n log hashes ≡ refused 9
  unfolding check_answer all_inside
  check_outside hashes e p h l =
      ap (λ (t : Bool). cond t (after_entries (read_log rule log).stop (hashes_fit hashes (updates_in (read_log rule log).entries))) (refused 9))
      (st.inside ∙ ap (λ (x : Reading). all_inside n x.entries) (read_entry_lem rule (edition_at log) log at e p h) ∙ ap (λ (t : Bool). t && all_inside n (read_from rule (edition_at log) log p).entries) (le-ltb (bucket_of e) n l))

  -- where the reading stops
  at_stop : (hashes : ℕ) (a : Answer (Unit {0})) → read_from rule (edition_at log) log at ≡ stop_at at a → check_answer rule n log hashes ≡ after_entries a (hashes_fit hashes updates)
  unfolding check_answer all_inside updates_in
  at_stop hashes a r =
      let z : updates + 0 ≡ updates = omega arith in
      ap (λ (t : Bool). cond t (after_entries (read_log rule log).stop (hashes_fit hashes (updates_in (read_log rule log).entries))) (refused 9)) (st.inside ∙ ap (λ (x : Reading). all_inside n x.entries) r)
      ∙ ap₂ (λ (s : Answer (Unit {0})) (u : ℕ). after_entries s (hashes_fit hashes u)) (st.stop ∙ ap (λ (x : Reading). x.stop) r) (st.count ∙ ap (λ (x : Reading). updates + updates_in x.entries) r ∙ z)

  pub check_end : (hashes : ℕ) → the_end ≡ head_of (next_by rule (edition_at log) log at) → check_answer rule n log hashes ≡ hashes_fit hashes updates
  check_end hashes e = at_stop hashes (given tt) (read_end rule (edition_at log) log at (head_end (next_by rule (edition_at log) log at) e))

  pub check_refused : (hashes k : ℕ) → a_refusal k ≡ head_of (next_by rule (edition_at log) log at) → check_answer rule n log hashes ≡ refused k
  check_refused hashes k e = at_stop hashes (refused k) (read_stop rule (edition_at log) log at k (head_stop (next_by rule (edition_at log) log at) k e))

-- the update that a head stands for, and its bucket
pub there_bucket : (rule : AfterEnd) (ed : Edition) (log : List ℕ) (at b c p : ℕ) → There rule ed log at b c p → bucket_of (update_of log (at + mark_size ed)) ≡ b
unfolding update_of
there_bucket rule ed log at b c p t = ap (λ (k : ℕ). le (block 8 log (at + mark_size ed + 56 + 32 * k))) (sym t.count) ∙ sym t.bucket

pub there_one : (ed : Edition) (log : List ℕ) (at : ℕ) → one_update (update_of log (at + mark_size ed)) ≡ 1
unfolding update_of
there_one ed log at = refl

-- the update by its parts, with the head's bucket and count
pub there_entry : (rule : AfterEnd) (ed : Edition) (log : List ℕ) (at b c p : ℕ) → There rule ed log at b c p → update_of log (at + mark_size ed) ≡ update (block 32 log (at + mark_size ed)) (diff_at log (at + mark_size ed)) (nodes_from log (at + mark_size ed + 48) c) (block 8 log (at + mark_size ed + 48 + 32 * c)) b
unfolding update_of
there_entry rule ed log at b c p t =
    ap (λ (k : ℕ). update (block 32 log (at + mark_size ed)) (diff_at log (at + mark_size ed)) (nodes_from log (at + mark_size ed + 48) k) (block 8 log (at + mark_size ed + 48 + 32 * k)) (le (block 8 log (at + mark_size ed + 56 + 32 * k)))) (sym t.count)
    ∙ ap (update (block 32 log (at + mark_size ed)) (diff_at log (at + mark_size ed)) (nodes_from log (at + mark_size ed + 48) c) (block 8 log (at + mark_size ed + 48 + 32 * c))) (sym t.bucket)

pub updated_there : (ed : Edition) (log : List ℕ) (at p : ℕ) → updated p ≡ went_to (update_of log (at + mark_size ed)) p
unfolding update_of
updated_there ed log at p = refl

-- ---- what stands where a head was read, in an edition that is ed
module _ (rule : AfterEnd) (ed own : Edition) (log : List ℕ) (at : ℕ) (h : Head) (said : head_said (Ok h) ≡ head_of (next_by rule ed log at)) (same : ed ≡ own) where
  seen : (x : Head) → h ≡ x → head_said (Ok x) ≡ head_of (next_by rule own log at)
  seen x e = sym (ap (λ (y : Head). head_said (Ok y)) e) ∙ said ∙ ap (λ (y : Edition). head_of (next_by rule y log at)) same

  pub clear_read : (b p : ℕ) → h ≡ head.Clear b p → next_by rule own log at ≡ next (clear b) p
  clear_read b p e = head_clear (next_by rule own log at) b p (seen (head.Clear b p) e)

  pub update_read : (b c p : ℕ) → h ≡ head.Update b c p → There rule own log at b c p
  update_read b c p e = head_update rule own log at b c p (seen (head.Update b c p) e)

  pub end_read : h ≡ head.End → the_end ≡ head_of (next_by rule own log at)
  end_read e = seen head.End e

-- a head that is no entry is the end
pub is_end : (h : Head) → ((b p : ℕ) → h ≡ head.Clear b p → ⊥) → ((b c p : ℕ) → h ≡ head.Update b c p → ⊥) → h ≡ head.End
is_end (head.Clear b p) f g = absurd (f b p refl)
is_end (head.Update b c p) f g = absurd (g b c p refl)
is_end head.End f g = refl
