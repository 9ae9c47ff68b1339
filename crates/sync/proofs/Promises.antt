-- What a service relies on, of the call: each theorem takes what `sync` promises of its answer and of the memory it leaves, and one of its
-- answers; nothing else. Assumes nothing.
use mathlib.Core.Path.{◌≡◌, refl, sym, ap, ap₂, ◌∙◌, subst}
use mathlib.Core.Bool.{Bool, true, false, cond}
use mathlib.Core.List.{List, [], ◌∷◌}
use Prim.Native.Nat.{ℕ, ◌+◌, ◌<◌}
use native.Mathlib.Omega.{arith}
use lib.ListN.{length, get_or, take, length-replicate, get_or-replicate}
use Rattle.std.specs.Prelude.{Result, Ok, Err}
use Rattle.answers.specs.Answers.{Answer, given, refused}
use Rattle.answers.specs.Refusals.{number_of}
use Rattle.answers.specs.declared.Refusal.{Refusal}
use Rattle.ht_file.specs.Places.{image_fits}
use Rattle.meta_map.specs.Tags.{full, count_of}
use Rattle.page_diff.specs.Diff.{marked}
use Rattle.wal.specs.declared.AfterEnd.{AfterEnd}
use Rattle.wal.specs.declared.Start.{Start}
use Rattle.wal.specs.Log.{Entry}
use Rattle.wal.specs.Reader.{start_of, read_log}
use Rattle.wal.specs.declared.Writer.{Writer}
use Rattle.wal.specs.declared.Writer.TheVariants.{Fresh}
use Rattle.recover.specs.Replay.{applied, one_update, updates_in, replay_answer, Own}
use Rattle.recover.specs.declared.Expected.{Expected}
use Rattle.wal.specs.Run.{WideStart, end_of}
use Rattle.sync.specs.Change.{AllWide, Mem, clears, updates, allocates, does_of, Effect, cleared, updated, allocated, effect_of, entry_by, mem_by, state_by}
use Rattle.sync.specs.Sync.{page_of, Came, through, refused_at, or_rest, change_at, change_mem, all_of, entries_by, entries_of, hashes_of, before_changes, start_mem, start_state, SyncSaid, said_done, said_by, said_if, synced_said, came, left, sync_says, sync_mem, widths_by, SyncPromise}
use Rattle.sync.specs.declared.Change.{Change}
use Rattle.sync.specs.declared.SyncState.{SyncState}
use Rattle.sync.specs.declared.SyncRefusal.{SyncRefusal}
use Rattle.sync.specs.declared.SyncRefusal.TheVariants as why
use Rattle.sync.specs.declared.SyncStart.{SyncStart}
use Rattle.sync.specs.declared.Synced.{Synced}
use Rattle.sync.proofs.Accepted.{after_cleared, after_updated, after_allocated, accepted_change}
use Rattle.sync.proofs.Logged.{done_left, done_start, done_back}
use Rattle.sync.proofs.Occupied.{done_occupied}
use Rattle.sync.proofs.Plans.{Told, as_clear, as_update, as_new, does_told}
use Rattle.sync.proofs.Refused.{OfStart, OfChange, start_number, refused_before, refused_at_lem}
use Rattle.sync.proofs.Replayed.{done_replays}
use Rattle.sync.proofs.Untouched.{Misses, all_tags, wrote, all_marks}

-- ---- one hash for each update that the changes give
module _ (st : SyncState) (m : Mem) (page : List ℕ) (c : Change) where
  abbrev clearing : Bool
  clearing = marked c.diff.words 127

  -- a clearing change logs a clear, any other an update
  one_hash : (e : Effect) → effect_of st m page c ≡ given e → one_update (entry_by c page e) ≡ cond clearing 0 1
  one_hash (cleared b) h = go (does_told st.n m.tags m.cells c (clears b) (after_cleared st m c (does_of st.n m.tags m.cells c) b (accepted_change st m page c (cleared b) h).2).0)
    where
      go : Told st.n m.tags c.hash clearing (clears b) → one_update (entry_by c page (cleared b)) ≡ cond clearing 0 1
      go (as_clear l s q) = sym (ap (λ (x : Bool). cond {A = ℕ} x 0 1) s)
  one_hash (updated b) h = go (does_told st.n m.tags m.cells c (updates b) (after_updated st m c (does_of st.n m.tags m.cells c) b (accepted_change st m page c (updated b) h).2).0)
    where
      go : Told st.n m.tags c.hash clearing (updates b) → one_update (entry_by c page (updated b)) ≡ cond clearing 0 1
      go (as_update l s q) = sym (ap (λ (x : Bool). cond {A = ℕ} x 0 1) s)
  one_hash (allocated b) h = go (does_told st.n m.tags m.cells c allocates (after_allocated st m c (does_of st.n m.tags m.cells c) b (accepted_change st m page c (allocated b) h).2).0)
    where
      go : Told st.n m.tags c.hash clearing allocates → one_update (entry_by c page (allocated b)) ≡ cond clearing 0 1
      go (as_new s) = sym (ap (λ (x : Bool). cond {A = ℕ} x 0 1) s)

abbrev Hashed : List ℕ → List Change → Type 0
Hashed pages cs = (m : Mem) (j : ℕ) (st : SyncState) (i : ℕ) → (all_of m pages cs j st).came ≡ through i → length (hashes_of cs) ≡ updates_in (entries_of m pages cs j st)

all_hashed : (pages : List ℕ) (cs : List Change) → Hashed pages cs
unfolding all_of change_at change_mem entries_of hashes_of updates_in
all_hashed pages [] m j st i e = refl
all_hashed pages (c ∷ cs) m j st i e = go (effect_of st m (page_of pages j) c) refl (all_hashed pages cs) e
  where
    one : (b : Bool) → length (cond b (hashes_of cs) (c.hash ∷ hashes_of cs)) ≡ cond b 0 1 + length (hashes_of cs)
    one true = omega arith
    one false = omega arith

    go : (a : Answer Effect) → effect_of st m (page_of pages j) c ≡ a → Hashed pages cs
        → (or_rest (change_at m pages c j st).came (change_at m pages c j st) (all_of (change_mem m pages c j st) pages cs (j + 1) (change_at m pages c j st).state)).came ≡ through i
        → length (cond (marked c.diff.words 127) (hashes_of cs) (c.hash ∷ hashes_of cs))
        ≡ updates_in (entries_by (effect_of st m (page_of pages j) c) c (page_of pages j) (entries_of (change_mem m pages c j st) pages cs (j + 1) (change_at m pages c j st).state))
    go (refused k) h rest q = let z : refused_at j k ≡ through i = rw h at q in let y : ◌≡◌ {A = ℕ} 0 1 = cc in absurd (omega arith)
    go (given x) h rest q =
        rw h
        (one (marked c.diff.words 127)
        ∙ ap₂ ◌+◌ (sym (one_hash st m (page_of pages j) c x h)) (rest (mem_by (given x) st m (page_of pages j) c) (j + 1) (state_by (given x) st c) i (rw h at q)))

-- ---- by its answer: refused, and not at a change
module _ (s : SyncStart) (m : Mem) (pages : List ℕ) (cs : List Change) (w : Writer) (r : Result Synced SyncRefusal) (w' : Writer) (after : Mem) (p : SyncPromise s m pages cs w r w' after) where
  abbrev n : ℕ
  n = s.n

  abbrev start : Start
  start = s.log_start

  -- what it said, where the answer is known
  said : (x : Result Synced SyncRefusal) → r ≡ x → sync_says n m pages cs start ≡ synced_said x
  said x e = sym p.says ∙ ap synced_said e

  -- "A refusal answers its number and leaves all lent memory": 1, 2 or begin's 13, with the writer as it was
  pub sync_refused_leaves : (q : Refusal) → r ≡ Err (why.Refused q) → OfStart (number_of q) × (after ≡ m) × (w' ≡ w)
  sync_refused_leaves q e =
      let b = refused_before n m pages cs start (number_of q) (said (Err (why.Refused q)) e) in
      (start_number n m pages (length cs) (number_of q) b.0, p.memory ∙ b.1, p.writer ∙ b.2 w)

  -- "a sync refused at change j keeps the effects of changes before j and its marks, answers j, and its writer becomes fresh": its number is one
  -- of a change's, and the memory is that of the first j changes
  pub sync_refused_at : (j : ℕ) (q : Refusal) → r ≡ Err (why.RefusedAt j q)
      → (j < length cs) × OfChange (number_of q) × ((came n m pages (take j cs) start).came ≡ through j) × (after ≡ left n m pages (take j cs) start) × (w' ≡ Fresh)
  sync_refused_at j q e =
      let x = refused_at_lem n m pages cs start j (number_of q) (said (Err (why.RefusedAt j q)) e) in
      (x.within, x.number, x.came_to, p.memory ∙ x.memory, p.writer ∙ x.fresh w)

  -- ---- by its answer: done
  module _ (o len : ℕ) (done : r ≡ Ok record { occupied = o; length = len }) where
    says : sync_says n m pages cs start ≡ said_done o len
    says = said (Ok record { occupied = o; length = len }) done

    widths : AllWide cs × (WideStart start)
    widths = subst (λ (x : SyncSaid). widths_by x cs start) (ap synced_said done) p.widths

    same_log : take len (sync_mem n m pages cs start).log ≡ take len after.log
    same_log = ap (λ (x : Mem). take len x.log) (sym p.memory)

    -- the entries that the changes give, in order
    abbrev pub logged : List Entry
    logged = entries_of (start_mem m start) pages cs 0 (start_state n m start)

    -- "answers occupied": the number of full tags that it leaves
    pub sync_occupied : o ≡ count_of full after.tags n
    sync_occupied = done_occupied n m pages cs start o len says ∙ ap (λ (x : Mem). count_of full x.tags n) (sym p.memory)

    -- "A finished log reads back as exactly the entries written", by a reader that wants zeros after end and by a tolerant one
    pub sync_reads_start : start_of (take len after.log) ≡ given start.sync
    sync_reads_start = ap start_of (sym same_log) ∙ done_start n m pages cs start o len widths.0 widths.1 says

    pub sync_reads_back : (rule : AfterEnd) → read_log rule (take len after.log) ≡ record { entries = logged; at = end_of start logged; stop = given tt }
    sync_reads_back rule = ap (read_log rule) (sym same_log) ∙ done_back n m pages cs start o len widths.0 widths.1 says rule

    -- each tag outside the buckets of the logged entries is as before; each mark is 1 where a tag of its page was written, else 0
    pub sync_other_tags : (i : ℕ) → Misses i logged → get_or after.tags i 0 ≡ get_or m.tags i 0
    sync_other_tags i misses =
        ap (λ (x : Mem). get_or x.tags i 0) p.memory
        ∙ ap (λ (x : List ℕ). get_or x i 0) (done_left n m pages cs start o len widths.0 widths.1 says).0
        ∙ all_tags i pages cs (start_mem m start) 0 (start_state n m start) misses

    pub sync_marks : (q : ℕ) → q < length m.marks → get_or after.marks q 0 ≡ cond (wrote (start_mem m start) pages cs 0 (start_state n m start) q) 1 0
    sync_marks q l =
        let long : length (start_mem m start).marks ≡ length m.marks = length-replicate (length m.marks) 0 in
        ap (λ (x : Mem). get_or x.marks q 0) p.memory
        ∙ ap (λ (x : List ℕ). get_or x q 0) (done_left n m pages cs start o len widths.0 widths.1 says).1
        ∙ all_marks q pages cs (start_mem m start) 0 (start_state n m start) (omega (arith, long))
        ∙ ap (cond (wrote (start_mem m start) pages cs 0 (start_state n m start) q) 1) (get_or-replicate (length m.marks) q 0 0 l)

    came_through : (i : ℕ) × ((came n m pages cs start).came ≡ through i)
    unfolding sync_says
    came_through = go (before_changes n m pages (length cs)) (came n m pages cs start).came refl says
      where
        go : (b : Answer (Unit {0})) (c : Came) → (came n m pages cs start).came ≡ c → said_if b (said_by c (came n m pages cs start).state (left n m pages cs start)) ≡ said_done o len → (i : ℕ) × ((came n m pages cs start).came ≡ through i)
        go (refused k) c q e = let z : ◌≡◌ {A = ℕ} 0 1 = cc in absurd (omega arith)
        go (given u) (refused_at j k) q e = let z : ◌≡◌ {A = ℕ} 0 1 = cc in absurd (omega arith)
        go (given u) (through i) q e = (i, q)

    -- "with the sync's own number .. and hashes for its updates": there are as many as replay wants
    pub sync_hashes : length (hashes_of cs) ≡ updates_in logged
    sync_hashes = all_hashed pages cs (start_mem m start) 0 (start_state n m start) came_through.0 came_through.1

    -- replay accepts the log on every image of the table's size, under the sync's own number (and, in edition two, seed) and with the hashes of its
    -- updates
    pub sync_replays : (rule : AfterEnd) (want : Expected) → Own start want → (table : List ℕ) → image_fits n (length table) ≡ true → replay_answer rule n table (take len after.log) want (hashes_of cs) ≡ given applied
    sync_replays rule want own table fits =
        ap (λ (l : List ℕ). replay_answer rule n table l want (hashes_of cs)) (sym same_log)
        ∙ done_replays rule n m pages cs start o len widths.0 says widths.1 want own table (hashes_of cs) fits sync_hashes
