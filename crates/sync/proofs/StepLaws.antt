-- One change: its definition test by test, and what is left of a refused and of an accepted one. Assumes nothing.
use mathlib.Core.Path.{◌≡◌, refl, sym, ap, ap₂, ◌∙◌}
use mathlib.Core.Bool.{true, false}
use mathlib.Core.List.{List, []}
use Prim.Native.Nat.{ℕ, ◌+◌}
use lib.Dec.{eqb}
use lib.ListN.{length}
use borrow.Author.Tests.{eq-eqb, ne_eqb}
use Rattle.std.specs.Prelude.{Result}
use Rattle.answers.specs.Answers.{Answer, given, refused}
use Rattle.answers.specs.declared.Refusal.{Refusal}
use Rattle.blocks.specs.Blocks.{put}
use Rattle.ht_file.specs.Places.{tag_pages, tags_fit, bucket_page, if_table}
use Rattle.ht_file.proofs.Laws.{table_unfit}
use Rattle.page_diff.specs.Diff.{count_of, reserved}
use Rattle.wal.specs.Log.{clear, record_of, clear_body, update_body, clear_size, update_size}
use Rattle.wal.specs.Writer.{open_at, position, edition_of, if_open, clear_answer, record_log, record_writer}
use Rattle.wal.specs.declared.Edition.{Edition}
use Rattle.wal.specs.declared.Writer.{Writer}
use Rattle.wal.specs.declared.Writer.TheVariants.{Fresh, Open, Finished}
use Rattle.wal_write.specs.Calls.{room_in, clear_writer, clear_log, page_update, page_update_answer, page_update_writer, page_update_log}
use Rattle.wal_write.proofs.CallLaws.{NotOpen, tested, taken, clear_tests, page_tests}
use Rattle.sync.specs.Change.{where_of, Wide, Mem, mem_of, Does, clears, updates, allocates, does_of, Effect, bucket_of, after_does, effect_of, entry_by, size_by, tags_by, marks_by, cells_by, occupied_by, mem_by, state_of, state_by, page_number, taken_said, StepPromise}
use Rattle.sync.specs.InnerChange.{outlook_said}
use Rattle.sync.specs.declared.Change.{Change}
use Rattle.sync.specs.declared.SyncState.{SyncState}
use Rattle.sync.specs.declared.Outlook.{Outlook}
use Rattle.sync.specs.declared.Taken.{Taken}

-- the writer is open
abbrev pub Opened : Writer → Type 0
Opened w = w ≡ open_at (edition_of w) (position w)

pub opened : (w : Writer) (p : ℕ) (ed : Edition) → w ≡ Open p ed → Opened w
opened w p ed e = rw e refl

module _ {A : Type 0} (a : Answer A) where
  open_goes : (w : Writer) → Opened w → if_open w a ≡ a
  open_goes Fresh o = absurd cc
  open_goes (Open p ed) o = refl
  open_goes (Finished n) o = absurd cc

  closed_stops : (w : Writer) → NotOpen w → if_open w a ≡ refused 12
  closed_stops Fresh o = refl
  closed_stops (Open p ed) o = absurd (o p ed refl)
  closed_stops (Finished n) o = refl

-- the two records that a change writes are taken where there is room
module _ (w : Writer) (l : List ℕ) where
  pub clear_taken : Opened w → room_in (length l) w clear_body ≡ true → clear_answer l w ≡ given tt
  clear_taken o r = clear_tests l w ∙ go w o r
    where
      go : (v : Writer) → Opened v → room_in (length l) v clear_body ≡ true → tested l v true false clear_size (given (tt {0})) ≡ given (tt {0})
      go Fresh o r = absurd cc
      go (Open p ed) o r = taken l (Open p ed) true false clear_size (given tt) ed p refl refl refl r
      go (Finished n) o r = absurd cc

  pub page_taken : (ws page : List ℕ) → Opened w → length page ≡ 4096 → reserved ws ≡ false → room_in (length l) w (update_body (count_of ws)) ≡ true → page_update_answer l w ws page ≡ given tt
  page_taken ws page o k f r = page_tests l w ws page ∙ go w o r
    where
      go : (v : Writer) → Opened v → room_in (length l) v (update_body (count_of ws)) ≡ true → tested l v (eqb (length page) 4096) (reserved ws) (λ ed. update_size ed (count_of ws)) (given (tt {0})) ≡ given (tt {0})
      go Fresh o r = absurd cc
      go (Open p ed) o r = taken l (Open p ed) (eqb (length page) 4096) (reserved ws) (λ ed. update_size ed (count_of ws)) (given tt) ed p refl (eq-eqb (length page) 4096 k) f r
      go (Finished n) o r = absurd cc

  -- so this is the state, and this the log
  module _ (h : clear_answer l w ≡ given tt) where
    pub clear_state : clear_writer l w ≡ open_at (edition_of w) (position w + clear_size (edition_of w))
    clear_state = ap (λ (a : Answer (Unit {0})). record_writer a w (clear_size (edition_of w))) h

    pub clear_bytes_lem : (b : ℕ) → clear_log l w b ≡ put l (position w) (record_of (edition_of w) (clear b))
    clear_bytes_lem b = ap (λ (a : Answer (Unit {0})). record_log a l w (record_of (edition_of w) (clear b))) h

  module _ (ws page : List ℕ) (h : page_update_answer l w ws page ≡ given tt) where
    pub page_state : page_update_writer l w ws page ≡ open_at (edition_of w) (position w + update_size (edition_of w) (count_of ws))
    page_state = ap (λ (a : Answer (Unit {0})). record_writer a w (update_size (edition_of w) (count_of ws))) h

    pub page_bytes : (id : List ℕ) (b : ℕ) → page_update_log l w id ws page b ≡ put l (position w) (record_of (edition_of w) (page_update id ws page b))
    page_bytes id b = ap (λ (a : Answer (Unit {0})). record_log a l w (record_of (edition_of w) (page_update id ws page b))) h

module _ (st : SyncState) (t ks cs l page : List ℕ) (c : Change) where
  abbrev effect : Answer Effect
  effect = effect_of st (mem_of t ks cs l) page c

  abbrev ahead : Answer Effect
  ahead = after_does st (mem_of t ks cs l) c (does_of st.n t cs c)

  -- ---- the definition, test by test
  pub step_unfit : (j : ℕ) → if_table {A = Unit {0}} (tags_fit st.n (length t)) (given tt) ≡ refused j → effect ≡ refused j
  unfolding effect_of
  step_unfit j e = sym (table_unfit (tags_fit st.n (length t)) j _ e)

  pub step_page : tags_fit st.n (length t) ≡ true → (length page ≡ 4096 → ⊥) → effect ≡ refused 2
  unfolding effect_of
  step_page h p = simp (h, ne_eqb (length page) 4096 p)

  pub step_marks : tags_fit st.n (length t) ≡ true → length page ≡ 4096 → (length ks ≡ tag_pages st.n → ⊥) → effect ≡ refused 2
  unfolding effect_of
  step_marks h p k = simp (h, eq-eqb (length page) 4096 p, ne_eqb (length ks) (tag_pages st.n) k)

  by_writer : tags_fit st.n (length t) ≡ true → length page ≡ 4096 → length ks ≡ tag_pages st.n → effect ≡ if_open st.writer ahead
  unfolding effect_of
  by_writer h p k = simp (h, eq-eqb (length page) 4096 p, eq-eqb (length ks) (tag_pages st.n) k)

  pub step_closed : tags_fit st.n (length t) ≡ true → length page ≡ 4096 → length ks ≡ tag_pages st.n → NotOpen st.writer → effect ≡ refused 12
  step_closed h p k o = by_writer h p k ∙ closed_stops ahead st.writer o

  -- looking ahead does not see the marks
  same_ahead : (a : Answer Does) → after_does st (mem_of t [] cs l) c a ≡ after_does st (mem_of t ks cs l) c a
  same_ahead (refused k) = refl
  same_ahead (given (clears b)) = refl
  same_ahead (given (updates b)) = refl
  same_ahead (given allocates) = refl

  pub step_ahead : tags_fit st.n (length t) ≡ true → length page ≡ 4096 → length ks ≡ tag_pages st.n → Opened st.writer → (o : Result Outlook Refusal) → outlook_said o ≡ after_does st (mem_of t [] cs l) c (does_of st.n t cs c) → effect ≡ outlook_said o
  step_ahead h p k w o s = by_writer h p k ∙ open_goes ahead st.writer w ∙ sym (s ∙ same_ahead (does_of st.n t cs c))

  -- ---- what is left
  abbrev pub Left : Result Taken Refusal → SyncState → Mem → Type 0
  Left r st' m = StepPromise st (mem_of t ks cs l) page c r st' m

  pub refused_left : (k : ℕ) (r : Result Taken Refusal) → effect ≡ refused k → taken_said r ≡ refused k → Wide c → Left r st (mem_of t ks cs l)
  refused_left k r e a w =
      record {
        taken = a ∙ sym (ap (page_number st) e);
        state = sym (ap (λ (x : Answer Effect). state_by x st c) e);
        memory = sym (ap (λ (x : Answer Effect). mem_by x st (mem_of t ks cs l) page c) e);
        wide = w;
      }

  pub given_left : (e : Effect) (r : Result Taken Refusal) (st' : SyncState) (t' ks' cs' l' : List ℕ) → effect ≡ given e → taken_said r ≡ given (bucket_of e, bucket_page st.n (bucket_of e))
      → st' ≡ state_of st.n st.limit (open_at (edition_of st.writer) (position st.writer + size_by (edition_of st.writer) c e)) (occupied_by e st.occupied) → t' ≡ tags_by e c.hash t → ks' ≡ marks_by e ks → cs' ≡ cells_by e (where_of c.place) cs
      → l' ≡ put l (position st.writer) (record_of (edition_of st.writer) (entry_by c page e)) → Wide c → Left r st' (mem_of t' ks' cs' l')
  given_left e r st' t' ks' cs' l' h a b et ek ec el w =
      record {
        taken = a ∙ sym (ap (page_number st) h);
        state = b ∙ sym (ap (λ (x : Answer Effect). state_by x st c) h);
        memory =
            ap₂ (λ (x y : List ℕ). mem_of x y cs' l') et ek
            ∙ ap₂ (λ (x y : List ℕ). mem_of (tags_by e c.hash t) (marks_by e ks) x y) ec el
            ∙ sym (ap (λ (x : Answer Effect). mem_by x st (mem_of t ks cs l) page c) h);
        wide = w;
      }
