-- The numbers that cross the boundary: how each answer of 01 is written in the struct that a call returns (`numbers/Numbers` has those of an edition, a
-- writer and an audit). Every struct begins with the number of the refusal, 0 for none; where there is no value a field is 0. Assumes nothing.
use Rattle.std.specs.Prelude.{◌≡◌, Bool, true, false, List, [], ◌∷◌, ℕ}
use Rattle.answers.specs.Answers.{Answer, given, refused}
use Rattle.probe.specs.Path.{Probe, empty_at, tombstone_at, hit_at, closed, Sought, found_at, absent, unreached, hit_limit}
use Rattle.wal.specs.Reader.{Next}
use Rattle.wal.specs.declared.Start.{Start}
use Rattle.wal.specs.declared.Writer.{Writer}
use Rattle.wal_read.specs.Head.{Seen, a_clear, an_update, the_end, a_refusal}
use Rattle.wal_read.specs.Entry.{Kind, clears, updates, ends, refuses, what_of, id_of, diff_of, packed_of, elided_of, next_of}
use Rattle.sync.specs.Change.{Wide, Mem, effect_of, mem_by, state_by, page_number}
use Rattle.sync.specs.Sync.{SyncSaid, said_done, said_refused, said_refused_at, sync_says, sync_writer, sync_mem, widths_by}
use Rattle.sync.specs.declared.Change.{Change}
use Rattle.sync.specs.declared.SyncState.{SyncState}
use Rattle.sync.specs.declared.SyncStart.{SyncStart}
use Rattle.recover.specs.Replay.{Did, nothing, stale, applied, Went, cleared, updated, at_end}
use Rattle.recover.specs.declared.Expected.{Expected}
use Rattle.rehash.specs.Marker.{Counts}
use Rattle.rehash.specs.Pending.{Left, tidy, update_meta_then_tidy}
use Rattle.rehash.specs.Growth.{Growth, done, nothing_to_do}
use Rattle.validate.specs.declared.Audit.{Audit}
use Rattle.numbers.specs.Numbers.{refusal_of, edition_of, writer_from, writer_kind, writer_at, audit_values}
use Rattle.bitbox.specs.declared.Answer.{Answer as Words}
use Rattle.bitbox.specs.declared.Probed.{Probed}
use Rattle.bitbox.specs.declared.Found.{Found}
use Rattle.bitbox.specs.declared.LogStart.{LogStart}
use Rattle.bitbox.specs.declared.WriterState.{WriterState}
use Rattle.bitbox.specs.declared.StepState.{StepState}
use Rattle.bitbox.specs.declared.StepAnswer.{StepAnswer}
use Rattle.bitbox.specs.declared.SyncAnswer.{SyncAnswer}
use Rattle.bitbox.specs.declared.Stepped.{Stepped}
use Rattle.bitbox.specs.declared.Marker.{Marker}
use Rattle.bitbox.specs.declared.Entry.{Entry}
use Rattle.bitbox.specs.declared.Head.{Head}
use Rattle.bitbox.specs.declared.Written.{Written}
use Rattle.bitbox.specs.declared.Audited.{Audited}

-- a diff's two words
abbrev pub pair : ℕ → ℕ → List ℕ
pair lo hi = lo ∷ hi ∷ []

abbrev pub words : ℕ → ℕ → Words
words k v = record { refusal = k; value = v }

-- nothing to say, a number, and whether something holds: 1 that it does
abbrev pub outcome_words : Answer (Unit {0}) → Words
outcome_words (given u) = words 0 0
outcome_words (refused k) = words k 0

abbrev pub number_words : Answer ℕ → Words
number_words (given v) = words 0 v
number_words (refused k) = words k 0

abbrev pub truth_words : Answer Bool → Words
truth_words (given true) = words 0 1
truth_words (given false) = words 0 0
truth_words (refused k) = words k 0

-- probing: 0 empty, 1 tombstone, 2 hit, each with its bucket and visit; 3 closed
abbrev pub probed : ℕ → ℕ → ℕ → ℕ → Probed
probed k w b v = record { refusal = k; kind = w; bucket = b; visit = v }

abbrev pub probe_words : Answer Probe → Probed
probe_words (given (empty_at b v)) = probed 0 0 b v
probe_words (given (tombstone_at b v)) = probed 0 1 b v
probe_words (given (hit_at b v)) = probed 0 2 b v
probe_words (given closed) = probed 0 3 0 0
probe_words (refused k) = probed k 0 0 0

-- lookup: 0 found, with its bucket; 1 absent, 2 closed
abbrev pub found : ℕ → ℕ → ℕ → Found
found k w b = record { refusal = k; kind = w; bucket = b }

abbrev pub lookup_words : Answer Sought → Found
lookup_words (given (found_at b)) = found 0 0 b
lookup_words (given absent) = found 0 1 0
lookup_words (given unreached) = found 0 2 0
lookup_words (refused k) = found k 0 0

-- an entry: 0 end, 1 clear, 2 update
abbrev pub entry_refusal : Kind → ℕ
entry_refusal (clears b) = 0
entry_refusal (updates b) = 0
entry_refusal ends = 0
entry_refusal (refuses k) = k

abbrev pub entry_kind : Kind → ℕ
entry_kind (clears b) = 1
entry_kind (updates b) = 2
entry_kind ends = 0
entry_kind (refuses k) = 0

abbrev pub entry_bucket : Kind → ℕ
entry_bucket (clears b) = b
entry_bucket (updates b) = b
entry_bucket ends = 0
entry_bucket (refuses k) = 0

-- the fields of what stands at a position
pub record Read (n : Next) (at : ℕ) (e : Entry) : Type 0 where
  pub refusal_is : e.refusal ≡ entry_refusal (what_of n)
  pub kind_is : e.kind ≡ entry_kind (what_of n)
  pub bucket_is : e.bucket ≡ entry_bucket (what_of n)
  pub next_is : e.next ≡ next_of n at
  pub id_is : e.id ≡ id_of n
  pub diff_is : e.diff.words ≡ diff_of n
  pub packed_is : e.packed ≡ packed_of n
  pub elided_is : e.elided ≡ elided_of n

-- an entry seen without its fields, by the same kinds: bucket, count of nodes, where the next one stands; "position unchanged" at the end and on
-- a refusal
abbrev pub head : ℕ → ℕ → ℕ → ℕ → ℕ → Head
head k w b c p = record { refusal = k; kind = w; bucket = b; count = c; next = p }

abbrev pub head_words : Seen → ℕ → Head
head_words (a_clear b p) at = head 0 1 b 0 p
head_words (an_update b c p) at = head 0 2 b c p
head_words the_end at = head 0 0 0 0 at
head_words (a_refusal k) at = head k 0 0 0 at

-- what a log starts with, and what replay expects
abbrev pub log_start_of : LogStart → Start
log_start_of s = record { sync = s.sync; edition = edition_of s.edition; seed = s.seed }

abbrev pub expected : ℕ → List ℕ → Expected
expected sync seed = record { sync = sync; seed = seed }

-- a writer: its kind, and its position or length
abbrev pub writer_of : WriterState → Writer
writer_of w = writer_from w.kind w.at

abbrev pub state : ℕ → ℕ → WriterState
state k p = record { kind = k; at = p }

abbrev pub writer_words : Writer → WriterState
writer_words w = state (writer_kind w) (writer_at w)

-- a writer's call: its answer, the length that finish gives, and the state after it
abbrev pub written : ℕ → ℕ → WriterState → Written
written k len w = record { refusal = k; length = len; writer = w }

abbrev pub written_words : Answer (Unit {0}) → Writer → Written
written_words (given u) w = written 0 0 (writer_words w)
written_words (refused k) w = written k 0 (writer_words w)

abbrev pub finished_words : Answer ℕ → Writer → Written
finished_words (given len) w = written 0 len (writer_words w)
finished_words (refused k) w = written k 0 (writer_words w)

-- a sync's state
abbrev pub state_of : StepState → SyncState
state_of s = record { n = s.n; limit = hit_limit; writer = writer_of s.writer; occupied = s.occupied }

abbrev pub state_as : ℕ → WriterState → ℕ → StepState
state_as n w o = record { n = n; writer = w; occupied = o }

abbrev pub state_words : SyncState → StepState
state_words s = state_as s.n (writer_words s.writer) s.occupied

-- a change: its bucket and its page's number, and the state after it
abbrev pub step_words : Answer (ℕ × ℕ) → StepState → StepAnswer
step_words (given p) s = record { refusal = 0; bucket = p.0; page = p.1; state = s }
step_words (refused k) s = record { refusal = k; bucket = 0; page = 0; state = s }

-- what a sync begins with
abbrev pub sync_start : ℕ → LogStart → SyncStart
sync_start n start = record { n = n; log_start = log_start_of start }

-- a sync: full buckets and the log's length; a refusal; or a refusal at a change
abbrev pub synced : ℕ → ℕ → ℕ → ℕ → ℕ → WriterState → SyncAnswer
synced k a j o l w = record { refusal = k; at_change = a; change = j; occupied = o; length = l; writer = w }

abbrev pub sync_words : SyncSaid → WriterState → SyncAnswer
sync_words (said_done o l) w = synced 0 0 0 o l w
sync_words (said_refused k) w = synced k 0 0 0 0 w
sync_words (said_refused_at j k) w = synced k 1 j 0 0 w

-- what the exported step and the exported sync promise: the answer in words, the memory, and the widths that the types give
pub record StepExport (st : StepState) (m : Mem) (page : List ℕ) (c : Change) (r : StepAnswer) (after : Mem) : Type 0 where
  pub answer : r ≡ step_words (page_number (state_of st) (effect_of (state_of st) m page c)) (state_words (state_by (effect_of (state_of st) m page c) (state_of st) c))
  pub memory : after ≡ mem_by (effect_of (state_of st) m page c) (state_of st) m page c
  pub wide : Wide c

pub record SyncExport (n : ℕ) (m : Mem) (pages : List ℕ) (cs : List Change) (start : LogStart) (w : WriterState) (r : SyncAnswer) (after : Mem) : Type 0 where
  pub answer : r ≡ sync_words (sync_says n m pages cs (log_start_of start)) (writer_words (sync_writer n m pages cs (log_start_of start) (writer_of w)))
  pub memory : after ≡ sync_mem n m pages cs (log_start_of start)
  pub widths : widths_by (sync_says n m pages cs (log_start_of start)) cs (log_start_of start)

-- replay: 0 nothing, 1 stale, 2 applied
abbrev pub replay_words : Answer Did → Words
replay_words (given nothing) = words 0 0
replay_words (given stale) = words 0 1
replay_words (given applied) = words 0 2
replay_words (refused k) = words k 0

-- one entry of it: 0 end, 1 cleared, 2 updated, with where the next one stands; the position itself at the end and on a refusal
abbrev pub went : ℕ → ℕ → ℕ → Stepped
went k w p = record { refusal = k; kind = w; next = p }

abbrev pub went_words : Answer Went → ℕ → Stepped
went_words (given at_end) at = went 0 0 at
went_words (given (cleared p)) at = went 0 1 p
went_words (given (updated p)) at = went 0 2 p
went_words (refused k) at = went k 0 at

-- a marker's counts
abbrev pub marker : ℕ → ℕ → ℕ → Marker
marker k o n = record { refusal = k; old = o; new = n }

abbrev pub marker_words : Answer Counts → Marker
marker_words (given c) = marker 0 c.old c.new
marker_words (refused k) = marker k 0 0

-- what is left of a growth: 0 tidy, 1 update meta, then tidy
abbrev pub left_words : Answer Left → Words
left_words (given tidy) = words 0 0
left_words (given update_meta_then_tidy) = words 0 1
left_words (refused k) = words k 0

-- growth: 0 nothing to do, 1 done
abbrev pub growth_words : Answer Growth → Words
growth_words (given nothing_to_do) = words 0 0
growth_words (given done) = words 0 1
growth_words (refused k) = words k 0

-- an audit: buckets, full ones and their rate
abbrev pub audit_words : Answer Audit → Audited
audit_words a =
    record {
      refusal = refusal_of a;
      capacity = (audit_values a).capacity;
      occupied = (audit_values a).occupied;
      rate = (audit_values a).rate;
    }
