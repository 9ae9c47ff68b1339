-- The whole sync, out of what its start, its changes and its end promise. The start is lent no cells and the end the log alone: what they say of
-- the rest does not matter. Assumes nothing.
use mathlib.Core.Path.{◌≡◌, refl, sym, ap, ap₂, ◌∙◌, subst}
use mathlib.Core.List.{List, []}
use Prim.Native.Nat.{ℕ}
use lib.ListN.{length}
use Rattle.std.specs.Prelude.{Result, Ok, Err}
use Rattle.answers.specs.Answers.{Answer, given, refused}
use Rattle.answers.specs.declared.Refusal.{Refusal}
use Rattle.answers.specs.Refusals.{number_of}
use Rattle.wal.specs.Writer.{finish_answer}
use Rattle.wal.specs.declared.Start.{Start}
use Rattle.wal.specs.declared.Writer.{Writer}
use Rattle.sync.specs.Change.{Mem, mem_of}
use Rattle.sync.specs.Sync.{CameTo, before_changes, start_mem, start_state, start_answer, kept_if, said_if, said_finish, came, left, Going, on, unbegun, stopped, going_by, walk_going, wide_on, end_said, end_log, end_writer, SyncSaid, sync_says, sync_mem, sync_writer, widths_by, SyncPromise, BeginPromise, WalkPromise, EndPromise, run_said}
use Rattle.sync.specs.declared.Change.{Change}
use Rattle.sync.specs.declared.SyncRefusal.{SyncRefusal}
use Rattle.sync.specs.declared.SyncRefusal.TheVariants as why
use Rattle.sync.specs.declared.SyncStart.{SyncStart}
use Rattle.sync.specs.declared.SyncState.{SyncState}
use Rattle.sync.specs.declared.Synced.{Synced}
use Rattle.sync.proofs.WalkLaws.{goes_on}

-- the memory with these cells
abbrev with_cells : List ℕ → Mem → Mem
with_cells c x = mem_of x.tags x.marks c x.log

-- the widths, whatever is said at the end
ended_widths : (g : Going) (log : List ℕ) (cs : List Change) (start : Start) → wide_on g cs start → widths_by (end_said g log) cs start
ended_widths (on st) log cs start h = go (finish_answer log st.writer)
  where
    go : (a : Answer ℕ) → widths_by (said_finish a st.occupied) cs start
    go (given len) = h
    go (refused k) = tt
ended_widths (unbegun k) log cs start h = tt
ended_widths (stopped j k) log cs start h = tt

module _ (s : SyncStart) (t k c l pages : List ℕ) (cs : List Change) where
  abbrev m : Mem
  m = mem_of t k c l

  abbrev n : ℕ
  n = s.n

  abbrev start : Start
  start = s.log_start

  -- the memory of the start, which is lent no cells; its tests do not look at them
  abbrev lent : Mem
  lent = mem_of t k [] l

  abbrev tests : Answer (Unit {0})
  tests = before_changes n m pages (length cs)

  same_tests : before_changes n lent pages (length cs) ≡ tests
  unfolding before_changes
  same_tests = refl

  -- where the changes came to from the start, and what they left
  abbrev there : CameTo
  there = came n m pages cs start

  abbrev z' : Mem
  z' = left n m pages cs start

  abbrev Walked : Result SyncState SyncRefusal → Mem → Type 0
  Walked r x = WalkPromise s m pages cs r x

  -- a start that is refused
  pub not_begun : (q : Refusal) (t' k' l' : List ℕ) → BeginPromise s lent pages (length cs) (Err q) (mem_of t' k' [] l') → Walked (Err (why.Refused q)) (mem_of t' k' c l')
  not_begun q t' k' l' b = go tests refl
    where
      go : (a : Answer (Unit {0})) → tests ≡ a → Walked (Err (why.Refused q)) (mem_of t' k' c l')
      go (given u) h = let z : refused (number_of q) ≡ start_answer (given u) (start_state n lent start) = b.0 ∙ ap (λ (x : Answer (Unit {0})). start_answer x (start_state n lent start)) (same_tests ∙ h) in absurd cc
      go (refused i) h =
          let z : refused (number_of q) ≡ start_answer (refused i) (start_state n lent start) = b.0 ∙ ap (λ (x : Answer (Unit {0})). start_answer x (start_state n lent start)) (same_tests ∙ h) in
          let y : number_of q ≡ i = cc in
          record {
            going = ap unbegun y ∙ sym (ap (λ (x : Answer (Unit {0})). walk_going x there) h);
            memory =
                ap (with_cells c) b.1.0 ∙ ap (λ (x : Answer (Unit {0})). with_cells c (kept_if x lent (start_mem lent start))) (same_tests ∙ h)
                ∙ sym (ap (λ (x : Answer (Unit {0})). kept_if x m z') h);
            widths = tt;
          }

  -- a start that is not, and the changes after it
  pub gone : (st : SyncState) (t' k' l' : List ℕ) → BeginPromise s lent pages (length cs) (Ok st) (mem_of t' k' [] l')
      → (r : Result SyncState SyncRefusal) (x : Mem) → goes_on (mem_of t' k' c l') pages cs 0 st ≡ (run_said r, x) → wide_on (run_said r) cs start → Walked r x
  gone st t' k' l' b r x walked wide = go tests refl
    where
      go : (a : Answer (Unit {0})) → tests ≡ a → Walked r x
      go (refused i) h = let z : given st ≡ start_answer (refused i) (start_state n lent start) = b.0 ∙ ap (λ (x : Answer (Unit {0})). start_answer x (start_state n lent start)) (same_tests ∙ h) in absurd cc
      go (given u) h =
          let z : given st ≡ start_answer (given u) (start_state n lent start) = b.0 ∙ ap (λ (x : Answer (Unit {0})). start_answer x (start_state n lent start)) (same_tests ∙ h) in
          let y : st ≡ start_state n m start = cc in
          let e : mem_of t' k' c l' ≡ start_mem m start = ap (with_cells c) b.1.0 ∙ ap (λ (x : Answer (Unit {0})). with_cells c (kept_if x lent (start_mem lent start))) (same_tests ∙ h) in
          let same : ◌≡◌ {A = Going × Mem} (run_said r, x) (going_by there.came there.state, z') =
          sym walked ∙ ap₂ (λ (v : Mem) (w : SyncState). goes_on v pages cs 0 w) e y in
          record {
            going = ap (λ (p : Going × Mem). p.0) same ∙ sym (ap (λ (x : Answer (Unit {0})). walk_going x there) h);
            memory = ap (λ (p : Going × Mem). p.1) same ∙ sym (ap (λ (x : Answer (Unit {0})). kept_if x m z') h);
            widths = wide;
          }

  module _ (w : Writer) where
    -- what is said where the sync goes so, over this memory
    abbrev Whole : Going → Mem → Type 0
    Whole g z =
        (end_said g z.log ≡ sync_says n m pages cs start) ×
        ((end_writer g z.log w ≡ sync_writer n m pages cs start w) × (mem_of z.tags z.marks z.cells (end_log g z.log) ≡ sync_mem n m pages cs start))

    -- by the answer to the tests
    by_tests : (a : Answer (Unit {0})) → tests ≡ a → Whole (walk_going a there) (kept_if a m z')
    unfolding sync_says sync_writer sync_mem
    by_tests (given u) is = (
      sym (ap (λ (b : Answer (Unit {0})). said_if b (end_said (going_by there.came there.state) z'.log)) is),
      (
        sym (ap (λ (b : Answer (Unit {0})). kept_if b w (end_writer (going_by there.came there.state) z'.log w)) is),
        sym (ap (λ (b : Answer (Unit {0})). kept_if b m (mem_of z'.tags z'.marks z'.cells (end_log (going_by there.came there.state) z'.log))) is),
      ),
    )
    by_tests (refused j) is = (
      sym (ap (λ (b : Answer (Unit {0})). said_if b (end_said (going_by there.came there.state) z'.log)) is),
      (
        sym (ap (λ (b : Answer (Unit {0})). kept_if b w (end_writer (going_by there.came there.state) z'.log w)) is),
        sym (ap (λ (b : Answer (Unit {0})). kept_if b m (mem_of z'.tags z'.marks z'.cells (end_log (going_by there.came there.state) z'.log))) is),
      ),
    )

    pub whole : (r : Result SyncState SyncRefusal) (x : Mem) → Walked r x → (a : Result Synced SyncRefusal) (w' : Writer) (after : List ℕ) → EndPromise r x.log w a w' after
        → SyncPromise s m pages cs w a w' (mem_of x.tags x.marks x.cells after)
    whole r x p a w' after e =
        let v : Whole (run_said r) x = subst (λ (g : Going). Whole g x) (sym p.going) (subst (Whole (walk_going tests there)) (sym p.memory) (by_tests tests refl)) in
        record {
          says = e.0 ∙ v.0;
          writer = e.1.0 ∙ v.1.0;
          memory = ap (mem_of x.tags x.marks x.cells) e.1.1 ∙ v.1.1;
          widths = subst (λ (y : SyncSaid). widths_by y cs start) (sym e.0) (ended_widths (run_said r) x.log cs start p.widths);
        }
