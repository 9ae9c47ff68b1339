-- 01, 'Sync', and 02, W-207: the changes one after another, and the whole sync. Assumes nothing.
use Rattle.std.specs.Prelude.{◌≡◌, cond, ◌&&◌, List, [], ◌∷◌, ℕ, ◌+◌, ◌*◌, ◌/◌, ltb, eqb, length, take, drop, replicate, Result, Ok, Err}
use Rattle.answers.specs.Answers.{Answer, given, refused, answer_of}
use Rattle.answers.specs.Refusals.{number_of}
use Rattle.answers.specs.declared.Refusal.{Refusal}
use Rattle.ht_file.specs.Places.{tag_pages, if_tags}
use Rattle.meta_map.specs.Tags.{full, count_of}
use Rattle.page_diff.specs.Diff.{marked}
use Rattle.probe.specs.Path.{hit_limit}
use Rattle.wal.specs.Log.{Entry, start_size}
use Rattle.wal.specs.Writer.{open_at, begin_answer, begin_log, finish_answer, finish_log, finish_writer}
use Rattle.wal.specs.Run.{WideStart}
use Rattle.wal.specs.declared.Start.{Start}
use Rattle.wal.specs.declared.Writer.{Writer}
use Rattle.wal.specs.declared.Writer.TheVariants.{Fresh}
use Rattle.sync.specs.Change.{AllWide, Mem, mem_of, Effect, effect_of, entry_by, mem_by, state_of, state_by}
use Rattle.sync.specs.declared.Change.{Change}
use Rattle.sync.specs.declared.SyncState.{SyncState}
use Rattle.sync.specs.declared.SyncStart.{SyncStart}
use Rattle.sync.specs.declared.SyncRefusal.{SyncRefusal}
use Rattle.sync.specs.declared.SyncRefusal.TheVariants as why
use Rattle.sync.specs.declared.Synced.{Synced}

-- change j's page: "with the pages in one slice"; none where they do not reach that far
abbrev pub page_of : List ℕ → ℕ → List ℕ
page_of pages j = cond (ltb j (length pages / 4096)) (take 4096 (drop (4096 * j) pages)) []

-- where the changes came to: all of them, or refused at one of them ("counted from 0") with a number
pub data Came : Type 0 where
  through : ℕ → Came
  refused_at : ℕ → ℕ → Came

pub record CameTo : Type 0 where
  pub came : Came
  pub state : SyncState

abbrev pub came_by : Answer Effect → ℕ → Came
came_by (given e) j = through j
came_by (refused k) j = refused_at j k

-- change j, on what the changes before it left
unfoldable pub change_at : Mem → List ℕ → Change → ℕ → SyncState → CameTo
change_at m pages c j st =
    record { came = came_by (effect_of st m (page_of pages j) c) j; state = state_by (effect_of st m (page_of pages j) c) st c }

unfoldable pub change_mem : Mem → List ℕ → Change → ℕ → SyncState → Mem
change_mem m pages c j st = mem_by (effect_of st m (page_of pages j) c) st m (page_of pages j) c

-- after a change: on to the rest, or stop there
abbrev pub or_rest : Came → CameTo → CameTo → CameTo
or_rest (through j) r rest = rest
or_rest (refused_at j k) r rest = r

abbrev pub or_mem : Came → Mem → Mem → Mem
or_mem (through j) m rest = rest
or_mem (refused_at j k) m rest = m

-- "the changes one after another": where they come to, and what they leave
unfoldable pub all_of : Mem → List ℕ → List Change → ℕ → SyncState → CameTo
all_of m pages [] j st = record { came = through j; state = st }
all_of m pages (c ∷ cs) j st =
    or_rest (change_at m pages c j st).came (change_at m pages c j st)
    (all_of (change_mem m pages c j st) pages cs (j + 1) (change_at m pages c j st).state)

unfoldable pub mem_all : Mem → List ℕ → List Change → ℕ → SyncState → Mem
mem_all m pages [] j st = m
mem_all m pages (c ∷ cs) j st =
    or_mem (change_at m pages c j st).came (change_mem m pages c j st)
    (mem_all (change_mem m pages c j st) pages cs (j + 1) (change_at m pages c j st).state)

-- the entries that the changes give, in order, as far as they come
abbrev pub entries_by : Answer Effect → Change → List ℕ → List Entry → List Entry
entries_by (given e) c page rest = entry_by c page e ∷ rest
entries_by (refused k) c page rest = []

unfoldable pub entries_of : Mem → List ℕ → List Change → ℕ → SyncState → List Entry
entries_of m pages [] j st = []
entries_of m pages (c ∷ cs) j st =
    entries_by (effect_of st m (page_of pages j) c) c (page_of pages j) (entries_of (change_mem m pages c j st) pages cs (j + 1) (change_at m pages c j st).state)

-- the hashes of the changes that do not clear, in order: those that replay of the log wants
unfoldable pub hashes_of : List Change → List ℕ
hashes_of [] = []
hashes_of (c ∷ cs) = cond (marked c.diff.words 127) (hashes_of cs) (c.hash ∷ hashes_of cs)

-- how a sync goes: on, with the state for its next change; refused before its first; or refused at change j
pub data Going : Type 0 where
  on : SyncState → Going
  unbegun : ℕ → Going
  stopped : ℕ → ℕ → Going

abbrev pub run_said : Result SyncState SyncRefusal → Going
run_said (Ok st) = on st
run_said (Err (why.Refused r)) = unbegun (number_of r)
run_said (Err (why.RefusedAt j r)) = stopped j (number_of r)

-- how it goes where its changes came to
abbrev pub going_by : Came → SyncState → Going
going_by (through j) st = on st
going_by (refused_at j k) st = stopped j k

-- ---- the whole sync
-- "Sync: 1, 2 unless there are 4,096 page bytes per record and M marks (any number of cells will do), 13 for begin"
unfoldable pub before_changes : ℕ → Mem → List ℕ → ℕ → Answer (Unit {0})
before_changes n m pages count =
    if_tags m.tags n (cond (eqb (length pages) (4096 * count) && eqb (length m.marks) (tag_pages n)) (begin_answer m.log) (refused 2))

-- "marks .. zeroed at the start"; the log is begun
abbrev pub start_mem : Mem → Start → Mem
start_mem m start = mem_of m.tags (replicate (length m.marks) 0) m.cells (begin_log m.log start)

-- "Occupied starts as the number of full tags"; allocation's limit is "at most 9,998 hits"
abbrev pub start_state : ℕ → Mem → Start → SyncState
start_state n m start = state_of n hit_limit (open_at start.edition (start_size start.edition)) (count_of full m.tags n)

-- what the whole sync says: occupied and the log's length; a refusal; or a refusal at change j
pub data SyncSaid : Type 0 where
  said_done : ℕ → ℕ → SyncSaid
  said_refused : ℕ → SyncSaid
  said_refused_at : ℕ → ℕ → SyncSaid

abbrev pub said_finish : Answer ℕ → ℕ → SyncSaid
said_finish (given len) occupied = said_done occupied len
said_finish (refused k) occupied = said_refused k

abbrev pub end_said : Going → List ℕ → SyncSaid
end_said (on st) log = said_finish (finish_answer log st.writer) st.occupied
end_said (unbegun k) log = said_refused k
end_said (stopped j k) log = said_refused_at j k

-- "finishes the log", or its "writer becomes fresh"; a sync that has not begun leaves both as they were lent
abbrev pub end_log : Going → List ℕ → List ℕ
end_log (on st) log = finish_log log st.writer
end_log (unbegun k) log = log
end_log (stopped j k) log = log

abbrev pub end_writer : Going → List ℕ → Writer → Writer
end_writer (on st) log w = finish_writer log st.writer
end_writer (unbegun k) log w = w
end_writer (stopped j k) log w = Fresh

-- the same, where the changes came to
abbrev pub said_by : Came → SyncState → Mem → SyncSaid
said_by c st m = end_said (going_by c st) m.log

abbrev pub log_after : Came → SyncState → Mem → List ℕ
log_after c st m = end_log (going_by c st) m.log

abbrev pub writer_after : Came → SyncState → Mem → Writer → Writer
writer_after c st m w = end_writer (going_by c st) m.log w

abbrev pub synced_said : Result Synced SyncRefusal → SyncSaid
synced_said (Ok x) = said_done x.occupied x.length
synced_said (Err (why.Refused r)) = said_refused (number_of r)
synced_said (Err (why.RefusedAt j r)) = said_refused_at j (number_of r)

-- the changes from the start
abbrev pub came : ℕ → Mem → List ℕ → List Change → Start → CameTo
came n m pages cs start = all_of (start_mem m start) pages cs 0 (start_state n m start)

abbrev pub left : ℕ → Mem → List ℕ → List Change → Start → Mem
left n m pages cs start = mem_all (start_mem m start) pages cs 0 (start_state n m start)

abbrev pub said_if : Answer (Unit {0}) → SyncSaid → SyncSaid
said_if (given u) s = s
said_if (refused k) s = said_refused k

abbrev pub kept_if : {A : Type 0} → Answer (Unit {0}) → A → A → A
kept_if (given u) before after = after
kept_if (refused k) before after = before

unfoldable pub sync_says : ℕ → Mem → List ℕ → List Change → Start → SyncSaid
sync_says n m pages cs start =
    said_if (before_changes n m pages (length cs)) (said_by (came n m pages cs start).came (came n m pages cs start).state (left n m pages cs start))

-- "Only tags, marks, cells and the log change"
unfoldable pub sync_mem : ℕ → Mem → List ℕ → List Change → Start → Mem
sync_mem n m pages cs start =
    let l : Mem = left n m pages cs start in
    kept_if (before_changes n m pages (length cs)) m
    (mem_of l.tags l.marks l.cells (log_after (came n m pages cs start).came (came n m pages cs start).state l))

unfoldable pub sync_writer : ℕ → Mem → List ℕ → List Change → Start → Writer → Writer
sync_writer n m pages cs start w =
    kept_if (before_changes n m pages (length cs)) w
    (writer_after (came n m pages cs start).came (came n m pages cs start).state (left n m pages cs start) w)

-- ---- what each part of a sync promises
-- change j of a sync that goes on; one that was refused stays as it is, and leaves all
abbrev pub change_going : Mem → List ℕ → Change → ℕ → Going → Going
change_going m pages c j (on st) = going_by (change_at m pages c j st).came (change_at m pages c j st).state
change_going m pages c j (unbegun k) = unbegun k
change_going m pages c j (stopped i k) = stopped i k

abbrev pub change_left : Mem → List ℕ → Change → ℕ → Going → Mem
change_left m pages c j (on st) = change_mem m pages c j st
change_left m pages c j (unbegun k) = m
change_left m pages c j (stopped i k) = m

abbrev pub ChangePromise : Mem → List ℕ → Change → ℕ → Result SyncState SyncRefusal → Result SyncState SyncRefusal → Mem → Type 0
ChangePromise m pages c j before r after = (run_said r ≡ change_going m pages c j (run_said before)) × (after ≡ change_left m pages c j (run_said before))

-- the start of a sync of so many changes: its answer, the marks and the log after it; and the widths of what its log starts with
abbrev pub start_answer : Answer (Unit {0}) → SyncState → Answer SyncState
start_answer (given u) st = given st
start_answer (refused k) st = refused k

abbrev pub BeginPromise : SyncStart → Mem → List ℕ → ℕ → Result SyncState Refusal → Mem → Type 0
BeginPromise s m pages count r after =
    (answer_of r ≡ start_answer (before_changes s.n m pages count) (start_state s.n m s.log_start)) ×
    ((after ≡ kept_if (before_changes s.n m pages count) m (start_mem m s.log_start)) × WideStart s.log_start)

-- the start and the changes: how the sync goes and what it leaves; and the widths of all of them, where it goes on
abbrev pub walk_going : Answer (Unit {0}) → CameTo → Going
walk_going (given u) c = going_by c.came c.state
walk_going (refused k) c = unbegun k

abbrev pub wide_on : Going → List Change → Start → Type 0
wide_on (on st) cs start = AllWide cs × WideStart start
wide_on (unbegun k) cs start = Unit {0}
wide_on (stopped j k) cs start = Unit {0}

pub record WalkPromise (s : SyncStart) (m : Mem) (pages : List ℕ) (cs : List Change) (r : Result SyncState SyncRefusal) (after : Mem) : Type 0 where
  pub going : run_said r ≡ walk_going (before_changes s.n m pages (length cs)) (came s.n m pages cs s.log_start)
  pub memory : after ≡ kept_if (before_changes s.n m pages (length cs)) m (left s.n m pages cs s.log_start)
  pub widths : wide_on (run_said r) cs s.log_start

-- the end of a sync, however it goes: the answer, the writer and the log after it
abbrev pub EndPromise : Result SyncState SyncRefusal → List ℕ → Writer → Result Synced SyncRefusal → Writer → List ℕ → Type 0
EndPromise g log w r w' after =
    (synced_said r ≡ end_said (run_said g) log) × ((w' ≡ end_writer (run_said g) log w) × (after ≡ end_log (run_said g) log))

-- the widths that the types of what is lent give, where a sync came through: of every change, and of what its log starts with
abbrev pub widths_by : SyncSaid → List Change → Start → Type 0
widths_by (said_done o len) cs start = AllWide cs × WideStart start
widths_by (said_refused k) cs start = Unit {0}
widths_by (said_refused_at j k) cs start = Unit {0}

-- what a sync promises: its answer, the writer and the memory after it; and these widths
pub record SyncPromise (s : SyncStart) (m : Mem) (pages : List ℕ) (cs : List Change) (w : Writer) (r : Result Synced SyncRefusal) (w' : Writer) (after : Mem) : Type 0 where
  pub says : synced_said r ≡ sync_says s.n m pages cs s.log_start
  pub writer : w' ≡ sync_writer s.n m pages cs s.log_start w
  pub memory : after ≡ sync_mem s.n m pages cs s.log_start
  pub widths : widths_by (synced_said r) cs s.log_start
