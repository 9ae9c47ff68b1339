-- The log of a sync is a finished log of exactly the entries that its changes give, in order: it reads back. Assumes nothing.
use mathlib.Core.Path.{◌≡◌, refl, sym, ap, ap₂, ◌∙◌, subst}
use mathlib.Core.Bool.{Bool, true, false, cond, ◌&&◌}
use mathlib.Core.List.{List, [], ◌∷◌, ◌++◌, append-nil, append_assoc}
use Prim.Native.Nat.{ℕ, ◌+◌, ◌*◌, ◌<◌, ◌^◌}
use native.Mathlib.Omega.{arith}
use lib.Dec.{eqb}
use lib.ListN.{length, take}
use borrow.Author.Tests.{eqb-true}
use Rattle.answers.specs.Answers.{Answer, given, refused, accepted}
use Rattle.answers.proofs.Laws.{given_one, given_refused}
use Rattle.blocks.specs.Blocks.{block}
use Rattle.blocks.proofs.Laws.{block-length}
use Rattle.ht_file.specs.Places.{tags_fit, tag_pages}
use Rattle.ht_file.proofs.Laws.{tags_fit_facts}
use Rattle.page_diff.specs.Diff.{reserved, count_of}
use Rattle.probe.specs.Path.{allocating, allocate_answer}
use Rattle.probe.proofs.Allocating.{answer_below}
use Rattle.wal.specs.Log.{Entry, update_body, finished_length}
use Rattle.wal.specs.Reader.{start_of, read_log}
use Rattle.wal.specs.Run.{Wide as WideUpdate, Run, begun, with_clear, WideStart, end_of}
use Rattle.wal.specs.Writer.{begin_answer, begin_log, finish_answer, finish_log}
use Rattle.wal.specs.declared.Writer.{Writer}
use Rattle.wal.specs.declared.Writer.TheVariants.{Fresh}
use Rattle.wal.proofs.RoundTrip.{run_made, finish_fits, round_trip_start, round_trip}
use Rattle.wal_write.specs.Calls.{room_in, clear_writer, page_update, page_update_writer}
use Rattle.wal_write.proofs.PageUpdates.{run_page}
use Rattle.wal.specs.declared.AfterEnd.{AfterEnd}
use Rattle.wal.specs.declared.Start.{Start}
use Rattle.sync.specs.Change.{Wide, AllWide, none_wide, more_wide, Mem, mem_of, does_of, Effect, cleared, updated, allocated, effect_of, entry_by, mem_by, state_by}
use Rattle.sync.specs.Sync.{page_of, Came, through, refused_at, or_rest, or_mem, change_at, change_mem, all_of, mem_all, entries_by, entries_of, before_changes, start_mem, start_state, said_done, said_finish, said_by, said_if, kept_if, log_after, came, left, sync_says, sync_mem}
use Rattle.sync.specs.declared.Change.{Change}
use Rattle.sync.specs.declared.SyncState.{SyncState}
use Rattle.sync.proofs.Accepted.{after_cleared, after_updated, after_allocated, accepted_change}
use Rattle.sync.proofs.Plans.{does_clears, does_updates, does_allocates}
use Rattle.sync.proofs.StartLaws.{begun_open}
use Rattle.sync.proofs.StepLaws.{Opened, clear_taken, page_taken, clear_state, clear_bytes_lem, page_state, page_bytes}

-- one accepted change is one more call of the run
module _ (log₀ : List ℕ) (start : Start) (st : SyncState) (m : Mem) (page : List ℕ) (c : Change) (es : List Entry) (run : Run log₀ start st.writer m.log es) (sized : Wide c) where
  abbrev w : Writer
  w = st.writer

  abbrev l : List ℕ
  l = m.log

  abbrev ws : List ℕ
  ws = c.diff.words

  abbrev Went : Effect → Type 0
  Went e = Run log₀ start (state_by (given e) st c).writer (mem_by (given e) st m page c).log (es ++ (entry_by c page e ∷ []))

  opened : Opened w
  opened = rw (run_made log₀ start run).is_open refl

  small : (b : ℕ) → b < st.n → tags_fit st.n (length m.tags) ≡ true → b < 2 ^ 64
  small b h f = omega (arith, tags_fit_facts st.n (length m.tags) f)

  page_went : (b : ℕ) → b < 2 ^ 64 → length page ≡ 4096 → reserved ws ≡ false → room_in (length l) w (update_body (count_of ws)) ≡ true → Went (updated b)
  page_went b h long plain room =
      let k = page_taken w l ws page opened long plain room in
      let wide : WideUpdate c.id ws (block 8 page 4056) b = record {
        change = sized;
        elided_long = block-length 8 page 4056;
        bucket = h;
      } in
      let r = run_page c.id ws page b wide log₀ start w l es run (ap accepted k) in
      subst (λ (x : Writer). Run log₀ start x (mem_by (given (updated b)) st m page c).log (es ++ (page_update c.id ws page b ∷ []))) (page_state w l ws page k)
      (subst (λ (x : List ℕ). Run log₀ start (page_update_writer l w ws page) x (es ++ (page_update c.id ws page b ∷ []))) (page_bytes w l ws page k c.id b) r)

  pub change_logged : (e : Effect) → effect_of st m page c ≡ given e → Went e
  change_logged (cleared b) h =
      let a = accepted_change st m page c (cleared b) h in
      let d = after_cleared st m c (does_of st.n m.tags m.cells c) b a.2 in
      let k = clear_taken w l opened d.1 in
      let r = with_clear w l es b run (small b (does_clears st.n m.tags m.cells c b d.0) a.0) (ap accepted k) in
      subst (λ (x : Writer). Run log₀ start x (mem_by (given (cleared b)) st m page c).log (es ++ (entry_by c page (cleared b) ∷ []))) (clear_state w l k)
      (subst (λ (x : List ℕ). Run log₀ start (clear_writer l w) x (es ++ (entry_by c page (cleared b) ∷ []))) (clear_bytes_lem w l k b) r)
  change_logged (updated b) h =
      let a = accepted_change st m page c (updated b) h in
      let d = after_updated st m c (does_of st.n m.tags m.cells c) b a.2 in
      let q = does_updates st.n m.tags m.cells c b d.0 in
      page_went b (small b q.0 a.0) a.1 q.1 d.1
  change_logged (allocated b) h =
      let a = accepted_change st m page c (allocated b) h in
      let d = after_allocated st m c (does_of st.n m.tags m.cells c) b a.2 in
      let f : allocate_answer st.limit m.tags st.n c.hash ≡ given b = ap (λ (t : Bool). cond t (allocating st.limit m.tags st.n c.hash) (refused 1)) a.0 ∙ d.2 in
      page_went b (small b (answer_below st.limit m.tags st.n c.hash b f).0 a.0) a.1 (does_allocates st.n m.tags m.cells c d.0) d.1

-- the changes, as far as they came, are a run of that many calls more
abbrev Runs : List ℕ → Start → List ℕ → List Change → Type 0
Runs log₀ start pages cs =
    (m : Mem) (j : ℕ) (st : SyncState) (es : List Entry) → Run log₀ start st.writer m.log es
    → Run log₀ start (all_of m pages cs j st).state.writer (mem_all m pages cs j st).log (es ++ entries_of m pages cs j st)

pub all_logged : (log₀ : List ℕ) (start : Start) (pages : List ℕ) (cs : List Change) → AllWide cs → Runs log₀ start pages cs
unfolding all_of mem_all change_at change_mem entries_of
all_logged log₀ start pages [] none_wide m j st es run = subst (Run log₀ start st.writer m.log) (sym (append-nil es)) run
all_logged log₀ start pages (c ∷ cs) (more_wide z zs) m j st es run = go (effect_of st m (page_of pages j) c) refl (all_logged log₀ start pages cs zs)
  where
    go : (e : Answer Effect) → effect_of st m (page_of pages j) c ≡ e → Runs log₀ start pages cs
        → Run log₀ start (or_rest (change_at m pages c j st).came (change_at m pages c j st) (all_of (change_mem m pages c j st) pages cs (j + 1) (change_at m pages c j st).state)).state.writer
        (or_mem (change_at m pages c j st).came (change_mem m pages c j st) (mem_all (change_mem m pages c j st) pages cs (j + 1) (change_at m pages c j st).state)).log
        (es ++ entries_by (effect_of st m (page_of pages j) c) c (page_of pages j) (entries_of (change_mem m pages c j st) pages cs (j + 1) (change_at m pages c j st).state))
    go (given e) h rest =
        let page : List ℕ = page_of pages j in
        let m' : Mem = mem_by (given e) st m page c in
        let st' : SyncState = state_by (given e) st c in
        let x : Entry = entry_by c page e in
        rw (h)
        (subst (Run log₀ start (all_of m' pages cs (j + 1) st').state.writer (mem_all m' pages cs (j + 1) st').log) (append_assoc es (x ∷ []) (entries_of m' pages cs (j + 1) st'))
        (rest m' (j + 1) st' (es ++ (x ∷ [])) (change_logged log₀ start st m page c es run z e h)))
    go (refused k) h rest = rw (h) (subst (Run log₀ start st.writer m.log) (sym (append-nil es)) run)

-- a sync that is done has begun its log, come through all changes and finished it
finish_told : (a : Answer ℕ) (occupied o len : ℕ) → said_finish a occupied ≡ said_done o len → a ≡ given len
finish_told (given x) occupied o len h = let z : x ≡ len = cc in ap given z
finish_told (refused k) occupied o len h = let z : ◌≡◌ {A = ℕ} 0 1 = cc in absurd (omega arith)

done_parts : (b : Answer (Unit {0})) (c : Came) (st : SyncState) (m : Mem) (o len : ℕ) → said_if b (said_by c st m) ≡ said_done o len → (b ≡ given tt) × (finish_answer m.log st.writer ≡ given len) × (log_after c st m ≡ finish_log m.log st.writer)
done_parts (refused k) c st m o len h = let z : ◌≡◌ {A = ℕ} 0 1 = cc in absurd (omega arith)
done_parts (given u) (refused_at j k) st m o len h = let z : ◌≡◌ {A = ℕ} 0 1 = cc in absurd (omega arith)
done_parts (given u) (through j) st m o len h = (refl, finish_told (finish_answer m.log st.writer) st.occupied o len h, refl)

-- what a sync that has begun passed: every test before the first change
passed : (f g h : Bool) (a : Answer (Unit {0})) → cond f (cond (g && h) a (refused 2)) (refused 1) ≡ given tt → (f ≡ true) × (g ≡ true) × (h ≡ true) × (a ≡ given tt)
passed true true true a e = (refl, refl, refl, e)
passed true true false a e = absurd (given_refused tt 2 (sym e))
passed true false h a e = absurd (given_refused tt 2 (sym e))
passed false g h a e = absurd (given_refused tt 1 (sym e))

pub start_passed : (n : ℕ) (m : Mem) (pages : List ℕ) (count : ℕ) → before_changes n m pages count ≡ given tt
    → (tags_fit n (length m.tags) ≡ true) × (length pages ≡ 4096 * count) × (length m.marks ≡ tag_pages n) × (begin_answer m.log ≡ given tt)
unfolding before_changes
start_passed n m pages count h =
    let q = passed (tags_fit n (length m.tags)) (eqb (length pages) (4096 * count)) (eqb (length m.marks) (tag_pages n)) (begin_answer m.log) h in
    (q.0, eqb-true (length pages) (4096 * count) q.1, eqb-true (length m.marks) (tag_pages n) q.2, q.3)

-- the whole: its log starts the slice, has the length that is answered, and reads back
module _ (n : ℕ) (m : Mem) (pages : List ℕ) (cs : List Change) (start : Start) (o len : ℕ) (sized : AllWide cs) (small : WideStart start) (h : sync_says n m pages cs start ≡ said_done o len) where
  abbrev pub entries : List Entry
  entries = entries_of (start_mem m start) pages cs 0 (start_state n m start)

  abbrev end : SyncState
  end = (came n m pages cs start).state

  abbrev last : Mem
  last = left n m pages cs start

  parts : (before_changes n m pages (length cs) ≡ given tt) × (finish_answer last.log end.writer ≡ given len) × (log_after (came n m pages cs start).came end last ≡ finish_log last.log end.writer)
  unfolding sync_says
  parts = done_parts (before_changes n m pages (length cs)) (came n m pages cs start).came end last o len h

  pub done_run : Run m.log start end.writer last.log entries
  done_run =
      let ok = (start_passed n m pages (length cs) parts.0).3 in
      all_logged m.log start pages cs sized (start_mem m start) 0 (start_state n m start) []
      (subst (λ (x : Writer). Run m.log start x (begin_log m.log start) []) (begun_open m.log start ok) (begun Fresh small (ap accepted ok)))

  pub done-length : len ≡ finished_length start.edition (end_of start entries)
  done-length = given_one len (finished_length start.edition (end_of start entries)) (sym parts.1 ∙ finish_fits m.log start end.writer last.log entries done_run)

  pub done_log : (sync_mem n m pages cs start).log ≡ finish_log last.log end.writer
  unfolding sync_mem
  done_log =
      ap (λ (b : Answer (Unit {0})). (kept_if b m (mem_of last.tags last.marks last.cells (log_after (came n m pages cs start).came end last))).log) parts.0 ∙ parts.2

  pub done_left : ((sync_mem n m pages cs start).tags ≡ last.tags) × ((sync_mem n m pages cs start).marks ≡ last.marks)
  unfolding sync_mem
  done_left = (
    ap (λ (b : Answer (Unit {0})). (kept_if b m (mem_of last.tags last.marks last.cells (log_after (came n m pages cs start).came end last))).tags) parts.0,
    ap (λ (b : Answer (Unit {0})). (kept_if b m (mem_of last.tags last.marks last.cells (log_after (came n m pages cs start).came end last))).marks) parts.0,
  )

  pub done_start : start_of (take len (sync_mem n m pages cs start).log) ≡ given start.sync
  done_start =
      ap₂ (λ (k : ℕ) (x : List ℕ). start_of (take k x)) done-length done_log ∙ round_trip_start m.log start end.writer last.log entries done_run

  pub done_back : (rule : AfterEnd) → read_log rule (take len (sync_mem n m pages cs start).log) ≡ record { entries = entries; at = end_of start entries; stop = given tt }
  done_back rule =
      ap₂ (λ (k : ℕ) (x : List ℕ). read_log rule (take k x)) done-length done_log ∙ round_trip m.log start end.writer last.log entries done_run rule
