-- A sync that comes through all its changes finishes its log; so one that is refused, and not at a change, leaves all, and one that is refused
-- at change j has the memory of the first j changes. Assumes nothing.
use mathlib.Core.Path.{◌≡◌, refl, sym, ap, ap₂, ◌∙◌, subst}
use mathlib.Core.Bool.{Bool, true, false, cond, ◌&&◌}
use mathlib.Core.Logic.{⊎_elim}
use mathlib.Core.List.{List, [], ◌∷◌}
use Prim.Native.Nat.{ℕ, suc, ◌+◌, ◌*◌, ◌/◌, ◌≤◌, ◌<◌}
use native.Mathlib.Omega.{arith}
use lib.Dec.{leb, ltb, eqb}
use lib.ListN.{length, get_or, take, length-set, length-take, length-drop, length-replicate}
use borrow.Author.Tests.{leb-true, le-leb, eq-eqb}
use Rattle.answers.specs.Answers.{Answer, given, refused}
use Rattle.answers.proofs.Laws.{given_refused, refused_one}
use Rattle.blocks.specs.Blocks.{put}
use Rattle.blocks.proofs.Laws.{put-length}
use Rattle.ht_file.specs.Places.{tags_fit, tag_pages}
use Rattle.meta_map.specs.Tags.{full_tag}
use Rattle.page_diff.specs.Diff.{marked, count_of}
use Rattle.probe.specs.Path.{Limit, allocating}
use Rattle.probe.proofs.Allocating.{refused_numbers}
use Rattle.wal.specs.declared.Start.{Start}
use Rattle.wal.specs.Log.{record_of, start_record, finished_length, clear_size, update_size, mark_size}
use Rattle.wal.specs.Writer.{open_at, position, edition_of, capacity, if_open, if_room, begin_answer, begin_log, log_by, finish_answer}
use Rattle.wal.specs.declared.Writer.{Writer}
use Rattle.wal.specs.declared.Writer.TheVariants.{Fresh}
use Rattle.wal.proofs.RoundTrip.{same_capacity, start_small}
use Rattle.sync_parts.specs.Parts.{Named, bucket, none, cell_names, named_by, tag_fits}
use Rattle.sync.specs.Change.{Mem, mem_of, where_of, Does, clears, updates, allocates, does_with, by_named, does_of, Effect, cleared, updated, allocated, by_bucket, after_does, effect_of, entry_by, size_by, tags_by, marks_by, mem_by, state_by}
use Rattle.sync.specs.Sync.{page_of, Came, through, refused_at, or_rest, or_mem, change_at, change_mem, all_of, mem_all, before_changes, start_mem, start_state, said_done, said_refused, said_refused_at, said_finish, said_by, said_if, kept_if, log_after, writer_after, came, left, sync_says, sync_mem, sync_writer}
use Rattle.sync.specs.declared.Change.{Change}
use Rattle.sync.specs.declared.SyncState.{SyncState}
use Rattle.sync_parts.specs.declared.Where.{Where}
use Rattle.sync_parts.specs.declared.Where.TheVariants.{Known, Fresh as FreshPage, Cell}
use Rattle.sync.proofs.Accepted.{room, after_cleared, after_updated, after_allocated, accepted_change}
use Rattle.sync.proofs.Logged.{start_passed}
use Rattle.sync.proofs.StartLaws.{page_there}

-- the writer is open, with room for the end
pub record Ready (w : Writer) (log : List ℕ) : Type 0 where
  pub is_open : w ≡ open_at (edition_of w) (position w)
  pub room : position w + mark_size (edition_of w) ≤ capacity log

module _ (st : SyncState) (m : Mem) (page : List ℕ) (c : Change) where
  sized : (e : Effect) → effect_of st m page c ≡ given e → position st.writer + size_by (edition_of st.writer) c e + mark_size (edition_of st.writer) ≤ capacity m.log
  sized (cleared b) h =
      leb-true (position st.writer + clear_size (edition_of st.writer) + mark_size (edition_of st.writer)) (capacity m.log) (after_cleared st m c (does_of st.n m.tags m.cells c) b (accepted_change st m page c (cleared b) h).2).1
  sized (updated b) h =
      leb-true (position st.writer + update_size (edition_of st.writer) (count_of c.diff.words) + mark_size (edition_of st.writer)) (capacity m.log) (after_updated st m c (does_of st.n m.tags m.cells c) b (accepted_change st m page c (updated b) h).2).1
  sized (allocated b) h =
      leb-true (position st.writer + update_size (edition_of st.writer) (count_of c.diff.words) + mark_size (edition_of st.writer)) (capacity m.log) (after_allocated st m c (does_of st.n m.tags m.cells c) b (accepted_change st m page c (allocated b) h).2).1

  -- an accepted change leaves it so
  change_ready : (e : Effect) → effect_of st m page c ≡ given e → Ready (state_by (given e) st c).writer (mem_by (given e) st m page c).log
  change_ready e h =
      record {
        is_open = refl;
        room = omega (arith, sized e h, same_capacity (put m.log (position st.writer) (record_of (edition_of st.writer) (entry_by c page e))) m.log (put-length m.log (position st.writer) (record_of (edition_of st.writer) (entry_by c page e))));
      }

-- and so do all of them, where they come through
abbrev Readies : List ℕ → List Change → Type 0
Readies pages cs =
    (m : Mem) (j : ℕ) (st : SyncState) (i : ℕ) → Ready st.writer m.log → (all_of m pages cs j st).came ≡ through i → Ready (all_of m pages cs j st).state.writer (mem_all m pages cs j st).log

no_through : (j k i : ℕ) → refused_at j k ≡ through i → ⊥
no_through j k i e = let z : ◌≡◌ {A = ℕ} 0 1 = cc in omega arith

all_ready : (pages : List ℕ) (cs : List Change) → Readies pages cs
unfolding all_of mem_all change_at change_mem
all_ready pages [] m j st i r e = r
all_ready pages (c ∷ cs) m j st i r e = go (effect_of st m (page_of pages j) c) refl (all_ready pages cs) e
  where
    go : (a : Answer Effect) → effect_of st m (page_of pages j) c ≡ a → Readies pages cs
        → (or_rest (change_at m pages c j st).came (change_at m pages c j st) (all_of (change_mem m pages c j st) pages cs (j + 1) (change_at m pages c j st).state)).came ≡ through i
        → Ready (or_rest (change_at m pages c j st).came (change_at m pages c j st) (all_of (change_mem m pages c j st) pages cs (j + 1) (change_at m pages c j st).state)).state.writer
        (or_mem (change_at m pages c j st).came (change_mem m pages c j st) (mem_all (change_mem m pages c j st) pages cs (j + 1) (change_at m pages c j st).state)).log
    go (given e) h rest =
        rw (h) (rest (mem_by (given e) st m (page_of pages j) c) (j + 1) (state_by (given e) st c) i (change_ready st m (page_of pages j) c e h))
    go (refused k) h rest = rw (h) (λ q. absurd (no_through j k i q))

-- then finish is accepted
finishes : (w : Writer) (log : List ℕ) → Ready w log → finish_answer log w ≡ given (finished_length (edition_of w) (position w))
unfolding finish_answer
finishes w log r =
    ap (λ (v : Writer). if_open v (if_room log w 0 (given (finished_length (edition_of w) (position w))))) r.is_open
    ∙ ap (λ (t : Bool). cond t (given (finished_length (edition_of w) (position w))) (refused 13)) (le-leb (position w + 0 + mark_size (edition_of w)) (capacity log) (omega (arith, r.room)))

-- the start
begin_ready : (m : Mem) (n : ℕ) (start : Start) → begin_answer m.log ≡ given tt → Ready (start_state n m start).writer (start_mem m start).log
unfolding begin_answer
begin_ready m n start h =
    record {
      is_open = refl;
      room = omega (arith, start_small start.edition, begin_room (leb 4096 (capacity m.log)) refl h, same_capacity (begin_log m.log start) m.log (begun-length (begin_answer m.log)));
    }
  where
    begin_room : (t : Bool) → leb 4096 (capacity m.log) ≡ t → cond (leb 4096 (capacity m.log)) (given (tt {0})) (refused 13) ≡ given tt → 4096 ≤ capacity m.log
    begin_room true e q = leb-true 4096 (capacity m.log) e
    begin_room false e q =
        let z : refused 13 ≡ given (tt {0}) = sym (ap (λ (t : Bool). cond t (given (tt {0})) (refused 13)) e) ∙ q in
        let y : ◌≡◌ {A = ℕ} 0 1 = cc in absurd (omega arith)

    begun-length : (a : Answer (Unit {0})) → length (log_by a m.log 0 (start_record start)) ≡ length m.log
    begun-length (given u) = put-length m.log 0 (start_record start)
    begun-length (refused k) = refl

-- "A refusal answers its number and leaves all lent memory": a sync that is refused, and not at a change, has begun nothing
module _ (n : ℕ) (m : Mem) (pages : List ℕ) (cs : List Change) (start : Start) (k : ℕ) where
  no_refusal : (b : Answer (Unit {0})) → before_changes n m pages (length cs) ≡ b → (c : Came) → (came n m pages cs start).came ≡ c
      → said_if b (said_by c (came n m pages cs start).state (left n m pages cs start)) ≡ said_refused k → b ≡ refused k
  no_refusal (refused j) p c q e = let z : j ≡ k = cc in ap refused z
  no_refusal (given u) p (refused_at j i) q e = let y : ◌≡◌ {A = ℕ} 0 1 = cc in absurd (omega arith)
  no_refusal (given u) p (through i) q e =
      let ok = (start_passed n m pages (length cs) p).3 in
      let r = all_ready pages cs (start_mem m start) 0 (start_state n m start) i (begin_ready m n start ok) q in
      let f = finishes (came n m pages cs start).state.writer (left n m pages cs start).log r in
      let z : said_done (came n m pages cs start).state.occupied (finished_length (edition_of (came n m pages cs start).state.writer) (position (came n m pages cs start).state.writer)) ≡ said_refused k = sym (ap (λ (a : Answer ℕ). said_finish a (came n m pages cs start).state.occupied) f) ∙ e in
      let y : ◌≡◌ {A = ℕ} 0 1 = cc in absurd (omega arith)

  pub refused_before : sync_says n m pages cs start ≡ said_refused k → (before_changes n m pages (length cs) ≡ refused k) × (sync_mem n m pages cs start ≡ m) × ((w : Writer) → sync_writer n m pages cs start w ≡ w)
  unfolding sync_says sync_mem sync_writer
  refused_before e =
      let b = no_refusal (before_changes n m pages (length cs)) refl (came n m pages cs start).came refl e in (
        b,
        ap (λ (a : Answer (Unit {0})). kept_if a m (mem_of (left n m pages cs start).tags (left n m pages cs start).marks (left n m pages cs start).cells (log_after (came n m pages cs start).came (came n m pages cs start).state (left n m pages cs start)))) b,
        λ w. ap (λ (a : Answer (Unit {0})). kept_if a w (writer_after (came n m pages cs start).came (came n m pages cs start).state (left n m pages cs start) w)) b,
      )

-- ---- a refusal before the first change: "1, 2 .., 13 for begin"
pub data OfStart : ℕ → Type 0 where
  table_unfit : OfStart 1
  lengths_unfit : OfStart 2
  no_page_of_log : OfStart 13

pub start_number : (n : ℕ) (m : Mem) (pages : List ℕ) (count k : ℕ) → before_changes n m pages count ≡ refused k → OfStart k
unfolding before_changes begin_answer
start_number n m pages count k e = go (tags_fit n (length m.tags)) (eqb (length pages) (4096 * count) && eqb (length m.marks) (tag_pages n)) (leb 4096 (capacity m.log)) e
  where
    go : (f g h : Bool) → cond f (cond g (cond h (given (tt {0})) (refused 13)) (refused 2)) (refused 1) ≡ refused k → OfStart k
    go true true true e = absurd (given_refused tt k e)
    go true true false e = subst OfStart (refused_one 13 k e) no_page_of_log
    go true false h e = subst OfStart (refused_one 2 k e) lengths_unfit
    go false g h e = subst OfStart (refused_one 1 k e) table_unfit

-- ---- a refusal at a change: "4, cell index 2, 9, 14, 13, 10 or 11"
pub data OfChange : ℕ → Type 0 where
  reserved_bit : OfChange 4
  cell_index : OfChange 2
  bucket_outside : OfChange 9
  bucket_unfit : OfChange 14
  no_room : OfChange 13
  path_crowded : OfChange 10
  path_closed : OfChange 11

does_number : (n : ℕ) (tags cells : List ℕ) (c : Change) (k : ℕ) → does_of n tags cells c ≡ refused k → OfChange k
unfolding does_of
does_number n tags cells c k e = spare (marked c.diff.words 126) (marked c.diff.words 127) e
  where
    named : (cl : Bool) (a : Answer Named) → ((i : ℕ) → a ≡ refused i → i ≡ 2) → by_named cl n tags c.hash a ≡ refused k → OfChange k
    named cl (refused i) f q = subst OfChange (sym (f i refl) ∙ refused_one i k q) cell_index
    named true (given none) f q = subst OfChange (refused_one 14 k q) bucket_unfit
    named false (given none) f q = absurd (given_refused allocates k q)
    named cl (given (bucket x)) f q = tests (ltb x n) (tag_fits c.hash (get_or tags x 0)) q
      where
        tests : (t u : Bool) → cond t (cond u (given (does_with cl x)) (refused 14)) (refused 9) ≡ refused k → OfChange k
        tests true true q = absurd (given_refused (does_with cl x) k q)
        tests true false q = subst OfChange (refused_one 14 k q) bucket_unfit
        tests false u q = subst OfChange (refused_one 9 k q) bucket_outside

    only_cells : (w : Where) (i : ℕ) → named_by w cells ≡ refused i → i ≡ 2
    only_cells (Known b) i q = absurd (given_refused (bucket b) i q)
    only_cells FreshPage i q = absurd (given_refused none i q)
    only_cells (Cell x) i q = go (ltb x (length cells)) q
      where
        go : (t : Bool) → cond t (given (cell_names (get_or cells x 0))) (refused 2) ≡ refused i → i ≡ 2
        go true q = absurd (given_refused (cell_names (get_or cells x 0)) i q)
        go false q = sym (refused_one 2 i q)

    spare : (t cl : Bool) → cond t (refused 4) (by_named cl n tags c.hash (named_by (where_of c.place) cells)) ≡ refused k → OfChange k
    spare true cl q = subst OfChange (refused_one 4 k q) reserved_bit
    spare false cl q = named cl (named_by (where_of c.place) cells) (only_cells (where_of c.place)) q

allocation_number : (limit : Limit) (ts : List ℕ) (n h k : ℕ) → allocating limit ts n h ≡ refused k → OfChange k
allocation_number limit ts n h k e =
    ⊎_elim (λ (q : k ≡ 10). subst OfChange (sym q) path_crowded) (λ (q : k ≡ 11). subst OfChange (sym q) path_closed) (refused_numbers limit ts n h k e)

module _ (st : SyncState) (m : Mem) (c : Change) (k : ℕ) where
  with_room : (r : Bool) (a : Answer Effect) → (a ≡ refused k → OfChange k) → cond r a (refused 13) ≡ refused k → OfChange k
  with_room true a f q = f q
  with_room false a f q = subst OfChange (refused_one 13 k q) no_room

  by_bucket_lem : (a : Answer ℕ) → (a ≡ refused k → OfChange k) → by_bucket a ≡ refused k → OfChange k
  by_bucket_lem (given b) f q = absurd (given_refused (allocated b) k q)
  by_bucket_lem (refused i) f q = f (ap refused (refused_one i k q))

  ahead_number : (a : Answer Does) → (a ≡ refused k → OfChange k) → after_does st m c a ≡ refused k → OfChange k
  ahead_number (refused i) f q = f (ap refused (refused_one i k q))
  ahead_number (given (clears b)) f q = with_room (room st m c (clear_size (edition_of st.writer))) (given (cleared b)) (λ z. absurd (given_refused (cleared b) k z)) q
  ahead_number (given (updates b)) f q = with_room (room st m c (update_size (edition_of st.writer) (count_of c.diff.words))) (given (updated b)) (λ z. absurd (given_refused (updated b) k z)) q
  ahead_number (given allocates) f q =
      with_room (room st m c (update_size (edition_of st.writer) (count_of c.diff.words))) (by_bucket (allocating st.limit m.tags st.n c.hash)) (by_bucket_lem (allocating st.limit m.tags st.n c.hash) (allocation_number st.limit m.tags st.n c.hash k)) q

-- within a sync what a step tests of its own holds: the lengths fit, and the writer is open
record Fit (st : SyncState) (m : Mem) : Type 0 where
  pub tags_fit_lem : tags_fit st.n (length m.tags) ≡ true
  pub marks_fit : length m.marks ≡ tag_pages st.n
  pub is_open : st.writer ≡ open_at (edition_of st.writer) (position st.writer)

module _ (st : SyncState) (m : Mem) (page : List ℕ) (c : Change) where
  tags_long : (e : Effect) → length (tags_by e c.hash m.tags) ≡ length m.tags
  tags_long (cleared b) = length-set m.tags b 0x7F
  tags_long (updated b) = refl
  tags_long (allocated b) = length-set m.tags b (full_tag c.hash)

  marks_long : (e : Effect) → length (marks_by e m.marks) ≡ length m.marks
  marks_long (cleared b) = length-set m.marks (b / 4096) 1
  marks_long (updated b) = refl
  marks_long (allocated b) = length-set m.marks (b / 4096) 1

  change_fit : (e : Effect) → Fit st m → Fit (state_by (given e) st c) (mem_by (given e) st m page c)
  change_fit e f =
      record {
        tags_fit_lem = ap (tags_fit st.n) (tags_long e) ∙ f.tags_fit_lem;
        marks_fit = marks_long e ∙ f.marks_fit;
        is_open = refl;
      }

  change_number : (k : ℕ) → Fit st m → length page ≡ 4096 → effect_of st m page c ≡ refused k → OfChange k
  unfolding effect_of
  change_number k f long e =
      let d : Answer Does = does_of st.n m.tags m.cells c in
      let one : effect_of st m page c ≡ after_does st m c d =
      simp (f.tags_fit_lem, eq-eqb (length page) 4096 long, eq-eqb (length m.marks) (tag_pages st.n) f.marks_fit) (ap (λ (v : Writer). if_open v (after_does st m c d)) f.is_open) in
      ahead_number st m c k d (does_number st.n m.tags m.cells c k) (sym one ∙ e)

-- where the changes stop: at the one after the first t, with its number, on the memory of those
record StopsAt (m : Mem) (pages : List ℕ) (cs : List Change) (j : ℕ) (st : SyncState) (i k : ℕ) : Type 0 where
  pub t : ℕ
  pub place : i ≡ j + t
  pub within : t < length cs
  pub number : OfChange k
  pub came_to : (all_of m pages (take t cs) j st).came ≡ through (j + t)
  pub memory : mem_all m pages cs j st ≡ mem_all m pages (take t cs) j st

abbrev Stops : List ℕ → List Change → Type 0
Stops pages cs =
    (m : Mem) (j : ℕ) (st : SyncState) (i k : ℕ) → Fit st m → ((t : ℕ) → t < length cs → length (page_of pages (j + t)) ≡ 4096) → (all_of m pages cs j st).came ≡ refused_at i k → StopsAt m pages cs j st i k

stops_at : (pages : List ℕ) (cs : List Change) → Stops pages cs
unfolding all_of mem_all change_at change_mem
stops_at pages [] m j st i k f long e = let z : ◌≡◌ {A = ℕ} 0 1 = cc in absurd (omega arith)
stops_at pages (c ∷ cs) m j st i k f long e = go (effect_of st m (page_of pages j) c) refl (stops_at pages cs) e
  where
    same : j ≡ j + 0
    same = omega arith

    next : (t : ℕ) → j + 1 + t ≡ j + (t + 1)
    next t = omega arith

    later : (t : ℕ) → j + 1 + t ≡ j + suc t
    later t = omega arith

    go : (a : Answer Effect) → effect_of st m (page_of pages j) c ≡ a → Stops pages cs
        → (or_rest (change_at m pages c j st).came (change_at m pages c j st) (all_of (change_mem m pages c j st) pages cs (j + 1) (change_at m pages c j st).state)).came ≡ refused_at i k
        → StopsAt m pages (c ∷ cs) j st i k
    go (refused x) h rest q =
        let z : refused_at j x ≡ refused_at i k = rw h at q in
        let at : j ≡ i = cc in
        let num : x ≡ k = cc in
        record {
          t = 0;
          place = omega arith;
          within = omega arith;
          number = change_number st m (page_of pages j) c k f (ap (λ (y : ℕ). length (page_of pages y)) same ∙ long 0 (omega arith)) (h ∙ ap refused num);
          came_to = ap through same;
          memory = rw h refl;
        }
    go (given x) h rest q =
        let r = rest (mem_by (given x) st m (page_of pages j) c) (j + 1) (state_by (given x) st c) i k (change_fit st m (page_of pages j) c x f)
        (λ t l. ap (λ (y : ℕ). length (page_of pages y)) (next t) ∙ long (t + 1) (omega arith)) (rw h at q) in
        record {
          t = suc r.t;
          place = omega (arith, r.place);
          within = omega (arith, r.within);
          number = r.number;
          came_to = rw h (r.came_to ∙ ap through (later r.t));
          memory = rw h r.memory;
        }

-- the whole: refused at change j, with its number, on the memory of the first j changes, the writer fresh
pub record RefusedAt (n : ℕ) (m : Mem) (pages : List ℕ) (cs : List Change) (start : Start) (j k : ℕ) : Type 0 where
  pub within : j < length cs
  pub number : OfChange k
  pub came_to : (came n m pages (take j cs) start).came ≡ through j
  pub memory : sync_mem n m pages cs start ≡ left n m pages (take j cs) start
  pub fresh : (w : Writer) → sync_writer n m pages cs start w ≡ Fresh

finish_at : (a : Answer ℕ) (o j k : ℕ) → said_finish a o ≡ said_refused_at j k → ⊥
finish_at (given len) o j k e = let z : ◌≡◌ {A = ℕ} 0 1 = cc in omega arith
finish_at (refused i) o j k e = let z : ◌≡◌ {A = ℕ} 0 1 = cc in omega arith

at_change_lem : (b : Answer (Unit {0})) (c : Came) (st : SyncState) (x : Mem) (j k : ℕ) → said_if b (said_by c st x) ≡ said_refused_at j k → (b ≡ given tt) × (c ≡ refused_at j k)
at_change_lem (refused i) c st x j k e = let z : ◌≡◌ {A = ℕ} 0 1 = cc in absurd (omega arith)
at_change_lem (given u) (refused_at i l) st x j k e = let a : i ≡ j = cc in let b : l ≡ k = cc in (refl, ap₂ refused_at a b)
at_change_lem (given u) (through i) st x j k e = absurd (finish_at (finish_answer x.log st.writer) st.occupied j k e)

-- where the lengths are right there is a page for each change
page_long : (pages : List ℕ) (count : ℕ) → length pages ≡ 4096 * count → (t : ℕ) → t < count → length (page_of pages (0 + t)) ≡ 4096
page_long pages count e t l =
    let z : 0 + t ≡ t = omega arith in
    ap (λ (x : ℕ). length (page_of pages x)) z ∙ ap length (page_there pages t (omega arith)) ∙ simp (length-take, length-drop) (omega arith)

module _ (n : ℕ) (m : Mem) (pages : List ℕ) (cs : List Change) (start : Start) (j k : ℕ) where
  pub refused_at_lem : sync_says n m pages cs start ≡ said_refused_at j k → RefusedAt n m pages cs start j k
  unfolding sync_says sync_mem sync_writer
  refused_at_lem e =
      let x = left n m pages cs start in
      let st = (came n m pages cs start).state in
      let q = at_change_lem (before_changes n m pages (length cs)) (came n m pages cs start).came st x j k e in
      let b = start_passed n m pages (length cs) q.0 in
      let fit : Fit (start_state n m start) (start_mem m start) = record { tags_fit_lem = b.0; marks_fit = length-replicate (length m.marks) 0 ∙ b.2; is_open = refl } in
      let s = stops_at pages cs (start_mem m start) 0 (start_state n m start) j k fit (page_long pages (length cs) b.1) q.1 in
      let here : s.t ≡ j = omega (arith, s.place) in
      let whole : sync_mem n m pages cs start ≡ x = ap₂ (λ (a : Answer (Unit {0})) (c : Came). kept_if a m (mem_of x.tags x.marks x.cells (log_after c st x))) q.0 q.1 in
      record {
        within = omega (arith, s.within);
        number = s.number;
        came_to = ap (λ (i : ℕ). (came n m pages (take i cs) start).came) (sym here) ∙ s.came_to ∙ ap through (sym s.place);
        memory = whole ∙ s.memory ∙ ap (λ (i : ℕ). left n m pages (take i cs) start) here;
        fresh = λ w. ap₂ (λ (a : Answer (Unit {0})) (c : Came). kept_if a w (writer_after c st x w)) q.0 q.1;
      }
