-- "Occupied starts as the number of full tags", and is that number after every change. Assumes nothing.
use mathlib.Core.Path.{◌≡◌, refl, sym, ap, ◌∙◌}
use mathlib.Core.Bool.{Bool, true, false, cond, ◌||◌}
use mathlib.Core.List.{List, [], ◌∷◌}
use Prim.Native.Nat.{ℕ, ◌+◌, ◌<◌}
use native.Mathlib.Omega.{arith}
use lib.ListN.{length, get_or}
use Rattle.answers.specs.Answers.{Answer, given, refused}
use Rattle.ht_file.proofs.Laws.{tags_fit_facts}
use Rattle.meta_map.specs.Tags.{Kind, empty, tombstone, full, other, is_kind, kind_of, full_tag, count_of, one}
use Rattle.meta_map.proofs.Laws.{full_tag_kind, count_set, count-le}
use Rattle.probe.specs.Path.{allocating}
use Rattle.probe.proofs.Promises.{allocated_bucket}
use Rattle.wal.specs.Writer.{finish_answer}
use Rattle.wal.specs.declared.Start.{Start}
use Rattle.sync.specs.Change.{Mem, mem_of, does_of, Effect, cleared, updated, allocated, effect_of, tags_if, mem_by, state_by}
use Rattle.sync.specs.Sync.{page_of, Came, through, refused_at, or_rest, or_mem, change_at, change_mem, all_of, mem_all, before_changes, start_mem, start_state, said_done, said_finish, said_by, said_if, kept_if, log_after, came, left, sync_says, sync_mem}
use Rattle.sync.specs.declared.Change.{Change}
use Rattle.sync.specs.declared.SyncState.{SyncState}
use Rattle.sync.proofs.Accepted.{after_cleared, after_allocated, accepted_change}
use Rattle.sync.proofs.TagKinds.{kind_taken_lem}
use Rattle.sync.proofs.Plans.{does_clears}

-- a bucket that is free is not full
free_not_full : (k : Kind) → is_kind empty k || is_kind tombstone k ≡ true → is_kind full k ≡ false
free_not_full empty h = refl
free_not_full tombstone h = refl
free_not_full full h = let z : ◌≡◌ {A = ℕ} 0 1 = cc in absurd (omega arith)
free_not_full other h = refl

module _ (st : SyncState) (m : Mem) (page : List ℕ) (c : Change) where
  -- after a change, accepted or refused
  pub occupied_kept : (e : Answer Effect) → effect_of st m page c ≡ e → st.occupied ≡ count_of full m.tags st.n → (state_by e st c).occupied ≡ count_of full (tags_if e c.hash m.tags) st.n
  occupied_kept (refused k) h o = o
  occupied_kept (given (updated b)) h o = o
  occupied_kept (given (cleared b)) h o =
      let a = accepted_change st m page c (cleared b) h in
      let f = tags_fit_facts st.n (length m.tags) a.0 in
      let d = (after_cleared st m c (does_of st.n m.tags m.cells c) b a.2).0 in
      let l = does_clears st.n m.tags m.cells c b d in
      let k = kind_taken_lem st m page c (cleared b) h in
      omega (arith, count_set full m.tags b 0x7F st.n l (omega arith), ap one k)
  occupied_kept (given (allocated b)) h o =
      let a = accepted_change st m page c (allocated b) h in
      let f = tags_fit_facts st.n (length m.tags) a.0 in
      let g = (after_allocated st m c (does_of st.n m.tags m.cells c) b a.2).2 in
      let r = allocated_bucket st.limit m.tags st.n c.hash b (ap (λ (t : Bool). cond t (allocating st.limit m.tags st.n c.hash) (refused 1)) a.0 ∙ g) in
      let l : b < st.n = r.1.below in
      omega (arith, count_set full m.tags b (full_tag c.hash) st.n l (omega arith), ap one (free_not_full (kind_of (get_or m.tags b 0)) (kind_taken_lem st m page c (allocated b) h)), ap (λ (x : Kind). one (is_kind full x)) (full_tag_kind c.hash), count-le full m.tags st.n)

-- after the changes, as far as they came
abbrev Counts : List ℕ → List Change → Type 0
Counts pages cs =
    (m : Mem) (j : ℕ) (st : SyncState) → st.occupied ≡ count_of full m.tags st.n → (all_of m pages cs j st).state.occupied ≡ count_of full (mem_all m pages cs j st).tags st.n

pub all_occupied : (pages : List ℕ) (cs : List Change) → Counts pages cs
unfolding all_of mem_all change_at change_mem
all_occupied pages [] m j st o = o
all_occupied pages (c ∷ cs) m j st o = go (effect_of st m (page_of pages j) c) refl (all_occupied pages cs)
  where
    go : (e : Answer Effect) → effect_of st m (page_of pages j) c ≡ e → Counts pages cs
        → (or_rest (change_at m pages c j st).came (change_at m pages c j st) (all_of (change_mem m pages c j st) pages cs (j + 1) (change_at m pages c j st).state)).state.occupied
        ≡ count_of full (or_mem (change_at m pages c j st).came (change_mem m pages c j st) (mem_all (change_mem m pages c j st) pages cs (j + 1) (change_at m pages c j st).state)).tags st.n
    go (given e) h rest =
        rw (h) (rest (mem_by (given e) st m (page_of pages j) c) (j + 1) (state_by (given e) st c) (occupied_kept st m (page_of pages j) c (given e) h o))
    go (refused k) h rest = rw (h) (occupied_kept st m (page_of pages j) c (refused k) h o)

-- what a sync that is done says
finish_done : (a : Answer ℕ) (occupied o len : ℕ) → said_finish a occupied ≡ said_done o len → occupied ≡ o
finish_done (given l) occupied o len h = cc
finish_done (refused k) occupied o len h = let z : ◌≡◌ {A = ℕ} 0 1 = cc in absurd (omega arith)

said_done_lem : (b : Answer (Unit {0})) (c : Came) (st : SyncState) (l : Mem) (o len : ℕ) → said_if b (said_by c st l) ≡ said_done o len → (b ≡ given tt) × (st.occupied ≡ o)
said_done_lem (refused k) c st l o len h = let z : ◌≡◌ {A = ℕ} 0 1 = cc in absurd (omega arith)
said_done_lem (given u) (refused_at j k) st l o len h = let z : ◌≡◌ {A = ℕ} 0 1 = cc in absurd (omega arith)
said_done_lem (given u) (through j) st l o len h = (refl, finish_done (finish_answer l.log st.writer) st.occupied o len h)

-- the whole: "answers occupied", the number of full tags that it leaves
pub done_occupied : (n : ℕ) (m : Mem) (pages : List ℕ) (cs : List Change) (start : Start) (o len : ℕ) → sync_says n m pages cs start ≡ said_done o len → o ≡ count_of full (sync_mem n m pages cs start).tags n
unfolding sync_says sync_mem
done_occupied n m pages cs start o len h =
    let a = came n m pages cs start in
    let l = left n m pages cs start in
    let d = said_done_lem (before_changes n m pages (length cs)) a.came a.state l o len h in
    sym d.1 ∙ all_occupied pages cs (start_mem m start) 0 (start_state n m start) refl
    ∙ sym (ap (λ (b : Answer (Unit {0})). count_of full (kept_if b m (mem_of l.tags l.marks l.cells (log_after a.came a.state l))).tags n) d.0)
