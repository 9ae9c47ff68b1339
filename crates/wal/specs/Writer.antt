-- 01, 'Writer', and 02, W-207: what each call answers, and the state and the log it leaves. Assumes nothing.
use Rattle.std.specs.Prelude.{cond, List, ℕ, ◌+◌, ◌*◌, ◌/◌, leb, eqb, length}
use Rattle.answers.specs.Answers.{Answer, given, refused, accepted}
use Rattle.blocks.specs.Blocks.{put}
use Rattle.page_diff.specs.Diff.{count_of, reserved}
use Rattle.wal.specs.Log.{mark_size, start_record, start_size, clear_size, update_size, finished_length, end_record}
use Rattle.wal.specs.declared.Edition.{Edition}
use Rattle.wal.specs.declared.Edition.TheVariants.{One}
use Rattle.wal.specs.declared.Start.{Start}
use Rattle.wal.specs.declared.Writer.{Writer}
use Rattle.wal.specs.declared.Writer.TheVariants.{Fresh, Open, Finished}

-- "Capacity is the lent slice rounded down to 4,096"
abbrev pub capacity : List ℕ → ℕ
capacity log = length log / 4096 * 4096

-- an open writer, where it stands, and the edition of its log
abbrev pub open_at : Edition → ℕ → Writer
open_at ed p = Open p ed

abbrev pub position : Writer → ℕ
position Fresh = 0
position (Open p ed) = p
position (Finished n) = 0

abbrev pub edition_of : Writer → Edition
edition_of Fresh = One
edition_of (Open p ed) = ed
edition_of (Finished n) = One

-- "writer not open": 12
abbrev pub if_open : {A : Type 0} → Writer → Answer A → Answer A
if_open Fresh a = refused 12
if_open (Open p ed) a = a
if_open (Finished n) a = refused 12

-- "A record is taken exactly when position + size + 1 is at most capacity", + 2 in edition two: else 13
abbrev pub if_room : {A : Type 0} → List ℕ → Writer → ℕ → Answer A → Answer A
if_room log w size a = cond (leb (position w + size + mark_size (edition_of w)) (capacity log)) a (refused 13)

-- "A refused writer call keeps the state", and every byte; an accepted one writes its bytes at its position
abbrev pub log_by : {A : Type 0} → Answer A → List ℕ → ℕ → List ℕ → List ℕ
log_by a log pos bytes = cond (accepted a) (put log pos bytes) log

abbrev pub writer_by : {A : Type 0} → Answer A → Writer → Writer → Writer
writer_by a w w' = cond (accepted a) w' w

-- begin: "works in any state and needs capacity 4,096"
unfoldable pub begin_answer : List ℕ → Answer (Unit {0})
begin_answer log = cond (leb 4096 (capacity log)) (given tt) (refused 13)

abbrev pub begin_log : List ℕ → Start → List ℕ
begin_log log start = log_by (begin_answer log) log 0 (start_record start)

abbrev pub begin_writer : List ℕ → Writer → Edition → Writer
begin_writer log w ed = writer_by (begin_answer log) w (open_at ed (start_size ed))

-- a clear: 12, 13
unfoldable pub clear_answer : List ℕ → Writer → Answer (Unit {0})
clear_answer log w = if_open w (if_room log w (clear_size (edition_of w)) (given tt))

-- an update lent a diff and a count of nodes: "12, 2, 4, 13"
unfoldable pub update_answer : List ℕ → Writer → List ℕ → ℕ → Answer (Unit {0})
update_answer log w ws held =
    if_open w (cond (eqb held (count_of ws)) (cond (reserved ws) (refused 4) (if_room log w (update_size (edition_of w) held) (given tt))) (refused 2))

-- after a record of these bytes
abbrev pub record_log : Answer (Unit {0}) → List ℕ → Writer → List ℕ → List ℕ
record_log a log w bytes = log_by a log (position w) bytes

abbrev pub record_writer : Answer (Unit {0}) → Writer → ℕ → Writer
record_writer a w size = writer_by a w (open_at (edition_of w) (position w + size))

-- finish: 12; "13 if position + 1 is above its capacity", + 2 in edition two; "answers the length of the log"
unfoldable pub finish_answer : List ℕ → Writer → Answer ℕ
finish_answer log w = if_open w (if_room log w 0 (given (finished_length (edition_of w) (position w))))

abbrev pub finish_log : List ℕ → Writer → List ℕ
finish_log log w = log_by (finish_answer log w) log (position w) (end_record (edition_of w) (position w))

abbrev pub finish_writer : List ℕ → Writer → Writer
finish_writer log w = writer_by (finish_answer log w) w (Finished (finished_length (edition_of w) (position w)))
