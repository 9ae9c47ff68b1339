-- Replay accepts the log of a sync, for a table of the same n with the updates' hashes. Assumes nothing.
use mathlib.Core.Path.{◌≡◌, refl, ap, ap₂, ◌∙◌}
use mathlib.Core.Bool.{Bool, true, cond, ◌&&◌}
use mathlib.Core.List.{List, [], ◌∷◌}
use Prim.Native.Nat.{ℕ, ◌+◌, ◌<◌}
use lib.Dec.{ltb}
use lib.ListN.{length, take}
use borrow.Author.Tests.{lt-ltb}
use Rattle.answers.specs.Answers.{Answer, given, refused}
use Rattle.ht_file.specs.Places.{image_fits}
use Rattle.probe.specs.Path.{allocating}
use Rattle.probe.proofs.Allocating.{answer_below}
use Rattle.recover.specs.Replay.{applied, all_inside, updates_in, replay_answer, Own}
use Rattle.recover.specs.declared.Expected.{Expected}
use Rattle.recover.proofs.Acceptance.{finished_accepted}
use Rattle.wal.specs.Run.{WideStart}
use Rattle.wal.specs.declared.AfterEnd.{AfterEnd}
use Rattle.wal.specs.declared.Start.{Start}
use Rattle.sync.specs.Change.{AllWide, Mem, does_of, Effect, cleared, updated, allocated, bucket_of, effect_of, mem_by, state_by}
use Rattle.sync.specs.Sync.{page_of, change_at, change_mem, entries_by, entries_of, start_mem, start_state, said_done, came, left, sync_says, sync_mem}
use Rattle.sync.specs.declared.Change.{Change}
use Rattle.sync.specs.declared.SyncState.{SyncState}
use Rattle.sync.proofs.Accepted.{after_cleared, after_updated, after_allocated, accepted_change}
use Rattle.sync.proofs.Logged.{done_run, done-length, done_log}
use Rattle.sync.proofs.Plans.{does_clears, does_updates}
use Rattle.sync.proofs.Untouched.{entry_bucket_lem}

-- an accepted change is of a bucket inside the table
bucket_inside : (st : SyncState) (m : Mem) (page : List ℕ) (c : Change) (e : Effect) → effect_of st m page c ≡ given e → bucket_of e < st.n
bucket_inside st m page c (cleared b) h =
    does_clears st.n m.tags m.cells c b (after_cleared st m c (does_of st.n m.tags m.cells c) b (accepted_change st m page c (cleared b) h).2).0
bucket_inside st m page c (updated b) h =
    (does_updates st.n m.tags m.cells c b (after_updated st m c (does_of st.n m.tags m.cells c) b (accepted_change st m page c (updated b) h).2).0).0
bucket_inside st m page c (allocated b) h =
    let a = accepted_change st m page c (allocated b) h in
    let d = after_allocated st m c (does_of st.n m.tags m.cells c) b a.2 in
    (answer_below st.limit m.tags st.n c.hash b (ap (λ (t : Bool). cond t (allocating st.limit m.tags st.n c.hash) (refused 1)) a.0 ∙ d.2)).0

-- and so are all entries
abbrev Inside : List ℕ → List Change → Type 0
Inside pages cs = (m : Mem) (j : ℕ) (st : SyncState) → all_inside st.n (entries_of m pages cs j st) ≡ true

all_inside_lem : (pages : List ℕ) (cs : List Change) → Inside pages cs
unfolding change_at change_mem entries_of all_inside
all_inside_lem pages [] m j st = refl
all_inside_lem pages (c ∷ cs) m j st = go (effect_of st m (page_of pages j) c) refl (all_inside_lem pages cs)
  where
    go : (a : Answer Effect) → effect_of st m (page_of pages j) c ≡ a → Inside pages cs
        → all_inside st.n (entries_by a c (page_of pages j) (entries_of (mem_by a st m (page_of pages j) c) pages cs (j + 1) (state_by a st c))) ≡ true
    go (refused k) h rest = refl
    go (given e) h rest =
        ap₂ ◌&&◌ (ap (λ (b : ℕ). ltb b st.n) (entry_bucket_lem c (page_of pages j) e) ∙ lt-ltb (bucket_of e) st.n (bucket_inside st m (page_of pages j) c e h))
        (rest (mem_by (given e) st m (page_of pages j) c) (j + 1) (state_by (given e) st c))

pub done_replays : (rule : AfterEnd) (n : ℕ) (m : Mem) (pages : List ℕ) (cs : List Change) (start : Start) (o len : ℕ) (sized : AllWide cs) (h : sync_says n m pages cs start ≡ said_done o len) → WideStart start
    → (want : Expected) → Own start want → (table hashes : List ℕ) → image_fits n (length table) ≡ true → length hashes ≡ updates_in (entries_of (start_mem m start) pages cs 0 (start_state n m start))
    → replay_answer rule n table (take len (sync_mem n m pages cs start).log) want hashes ≡ given applied
done_replays rule n m pages cs start o len sized h small want own table hashes fits e =
    ap₂ (λ (k : ℕ) (x : List ℕ). replay_answer rule n table (take k x) want hashes) (done-length n m pages cs start o len sized small h) (done_log n m pages cs start o len sized small h)
    ∙ finished_accepted rule m.log start (came n m pages cs start).state.writer (left n m pages cs start).log (entries_of (start_mem m start) pages cs 0 (start_state n m start)) (done_run n m pages cs start o len sized small h) want own n table hashes
    (all_inside_lem pages cs (start_mem m start) 0 (start_state n m start)) fits e
