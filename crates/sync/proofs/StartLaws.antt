-- What the start of a sync tests, and the page of a change. Assumes nothing.
use mathlib.Core.Path.{◌≡◌, refl, sym, ap, ◌∙◌}
use mathlib.Core.Bool.{Bool, true, cond}
use mathlib.Core.List.{List, []}
use Prim.Native.Nat.{ℕ, ◌*◌, ◌/◌, ◌≤◌, ◌<◌}
use lib.ListN.{length, take, drop}
use borrow.Author.Tests.{lt-ltb, le-ltb, eq-eqb, ne_eqb}
use Rattle.std.specs.Prelude.{Result, Ok, Err}
use Rattle.answers.specs.Answers.{Answer, given, refused}
use Rattle.answers.specs.Refusals.{number_of}
use Rattle.answers.specs.declared.Refusal.{Refusal}
use Rattle.answers.proofs.Laws.{given_refused, refused_one}
use Rattle.ht_file.specs.Places.{tags_fit, tag_pages, if_table}
use Rattle.ht_file.proofs.Laws.{table_unfit}
use Rattle.wal.specs.Log.{start_record, start_size}
use Rattle.wal.specs.Writer.{open_at, log_by, writer_by, begin_answer, begin_log, begin_writer}
use Rattle.wal.specs.declared.Writer.TheVariants.{Fresh}
use Rattle.wal.specs.Run.{WideStart}
use Rattle.wal.specs.declared.Start.{Start}
use Rattle.sync.specs.Change.{Mem, mem_of, Effect, effect_of, mem_by, state_by, page_number, taken_said}
use Rattle.sync.specs.Sync.{page_of, came_by, Going, on, stopped, going_by, change_at, change_mem, change_going, before_changes, start_mem, start_state, start_answer, kept_if}
use Rattle.sync.specs.declared.Change.{Change}
use Rattle.sync.specs.declared.SyncState.{SyncState}
use Rattle.sync.specs.declared.Taken.{Taken}

-- change j's page, where the pages reach that far and where they do not
module _ (pages : List ℕ) (j : ℕ) where
  pub page_there : j < length pages / 4096 → page_of pages j ≡ take 4096 (drop (4096 * j) pages)
  page_there h = ap (λ (t : Bool). cond t (take 4096 (drop (4096 * j) pages)) []) (lt-ltb j (length pages / 4096) h)

  pub page_none : length pages / 4096 ≤ j → page_of pages j ≡ []
  page_none h = ap (λ (t : Bool). cond t (take 4096 (drop (4096 * j) pages)) []) (le-ltb j (length pages / 4096) h)

-- ---- change j told on from its step
module _ (st : SyncState) (m : Mem) (pages page : List ℕ) (c : Change) (j : ℕ) (e : page ≡ page_of pages j) where
  refused_going : (a : Answer Effect) (k : ℕ) (s : SyncState) → refused k ≡ page_number st a → stopped j k ≡ going_by (came_by a j) s
  refused_going (given x) k s h = absurd (given_refused _ k (sym h))
  refused_going (refused i) k s h = ap (stopped j) (refused_one k i h)

  given_going : (a : Answer Effect) (t : Taken) (s : SyncState) → given (t.bucket, t.page) ≡ page_number st a → on s ≡ going_by (came_by a j) s
  given_going (given x) t s h = refl
  given_going (refused k) t s h = absurd (given_refused _ k h)

  -- the change, on its own page
  abbrev there : List ℕ → Going
  there p = going_by (came_by (effect_of st m p c) j) (state_by (effect_of st m p c) st c)

  module _ (t : Result Taken Refusal) (said : taken_said t ≡ page_number st (effect_of st m page c)) where
    pub change_refused : (r : Refusal) → t ≡ Err r → stopped j (number_of r) ≡ change_going m pages c j (on st)
    unfolding change_at
    change_refused r h =
        refused_going (effect_of st m page c) (number_of r) (state_by (effect_of st m page c) st c) (sym (ap taken_said h) ∙ said) ∙ ap there e

    pub change_given : (s : SyncState) → s ≡ state_by (effect_of st m page c) st c → (x : Taken) → t ≡ Ok x → on s ≡ change_going m pages c j (on st)
    unfolding change_at
    change_given s state x h =
        given_going (effect_of st m page c) x s (sym (ap taken_said h) ∙ said) ∙ ap (going_by (came_by (effect_of st m page c) j)) state ∙ ap there e

  pub change_mem_lem : (x : Mem) → x ≡ mem_by (effect_of st m page c) st m page c → x ≡ change_mem m pages c j st
  unfolding change_mem
  change_mem_lem x h = h ∙ ap (λ (p : List ℕ). mem_by (effect_of st m p c) st m p c) e

-- ---- the start, test by test
module _ (n : ℕ) (t k l pages : List ℕ) (count : ℕ) where
  abbrev m : Mem
  m = mem_of t k [] l

  abbrev before : Answer (Unit {0})
  before = before_changes n m pages count

  pub start_unfit : (j : ℕ) → if_table {A = Unit {0}} (tags_fit n (length t)) (given tt) ≡ refused j → before ≡ refused j
  unfolding before_changes
  start_unfit j e = sym (table_unfit (tags_fit n (length t)) j _ e)

  pub start_pages : tags_fit n (length t) ≡ true → (length pages ≡ 4096 * count → ⊥) → before ≡ refused 2
  unfolding before_changes
  start_pages h p = simp (h, ne_eqb (length pages) (4096 * count) p)

  pub start_marks : tags_fit n (length t) ≡ true → length pages ≡ 4096 * count → (length k ≡ tag_pages n → ⊥) → before ≡ refused 2
  unfolding before_changes
  start_marks h p q = simp (h, eq-eqb (length pages) (4096 * count) p, ne_eqb (length k) (tag_pages n) q)

  pub start_begin : tags_fit n (length t) ≡ true → length pages ≡ 4096 * count → length k ≡ tag_pages n → before ≡ begin_answer l
  unfolding before_changes
  start_begin h p q = simp (h, eq-eqb (length pages) (4096 * count) p, eq-eqb (length k) (tag_pages n) q)

  module _ (start : Start) (wide : WideStart start) where
    abbrev pub Begins : Answer SyncState → Mem → Type 0
    Begins g x = (g ≡ start_answer before (start_state n m start)) × ((x ≡ kept_if before m (start_mem m start)) × (WideStart start))

    pub begin_refused : (j : ℕ) → before ≡ refused j → Begins (refused j) m
    begin_refused j h = (
      sym (ap (λ (a : Answer (Unit {0})). start_answer a (start_state n m start)) h),
      (sym (ap (λ (a : Answer (Unit {0})). kept_if a m (start_mem m start)) h), wide),
    )

    pub begin_given : (s : SyncState) (x : Mem) → before ≡ given tt → s ≡ start_state n m start → x ≡ start_mem m start → Begins (given s) x
    begin_given s x h a b = (
      ap given a ∙ sym (ap (λ (y : Answer (Unit {0})). start_answer y (start_state n m start)) h),
      (b ∙ sym (ap (λ (y : Answer (Unit {0})). kept_if y m (start_mem m start)) h), wide),
    )

-- begin's answer: a refused one leaves the log, an accepted one opens the writer
module _ (l : List ℕ) (start : Start) where
  pub begun_left : (j : ℕ) → begin_answer l ≡ refused j → begin_log l start ≡ l
  begun_left j h = ap (λ (a : Answer (Unit {0})). log_by a l 0 (start_record start)) h

  pub begun_open : begin_answer l ≡ given tt → begin_writer l Fresh start.edition ≡ open_at start.edition (start_size start.edition)
  begun_open h = ap (λ (a : Answer (Unit {0})). writer_by a Fresh (open_at start.edition (start_size start.edition))) h
