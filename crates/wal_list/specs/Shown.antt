-- 01, 'Reading off a log', and 02, W-207: one line of `list` at a time, and how it goes on. Assumes nothing.
use Rattle.std.specs.Prelude.{cond, List, ℕ, ◌+◌, ◌*◌, leb, eqb, length, Result, Ok, Err}
use Rattle.answers.specs.Answers.{Answer, given, refused}
use Rattle.answers.specs.Refusals.{number_of}
use Rattle.answers.specs.declared.Refusal.{Refusal}
use Rattle.blocks.specs.Blocks.{put}
use Rattle.wal.specs.Log.{start_size}
use Rattle.wal.specs.Reader.{Next, next, ended, stopped, edition_at, start_of, next_by}
use Rattle.wal.specs.declared.AfterEnd.TheVariants.{Tolerant}
use Rattle.wal.specs.declared.Edition.{Edition}
use Rattle.wal_list.specs.Lines.{ascii, start_line, entry_line, end_line, refused_line, most, lines_of}
use Rattle.wal_list.specs.declared.Line.{Line}
use Rattle.wal_list.specs.declared.Line.TheVariants as line

-- a line, and the position of the record that has the next one, or that it is the last
pub data Shown : Type 0 where
  more : List ℕ → ℕ → Shown
  last : List ℕ → Shown

-- the first line
abbrev pub started : Edition → Answer ℕ → Shown
started ed (given sync) = more (start_line sync) (start_size ed)
started ed (refused n) = last (refused_line 0 n)

unfoldable pub first_shown : List ℕ → Shown
first_shown log = cond (leb (length log) most) (cond (eqb (length log) 0) (last (ascii "empty\n")) (started (edition_at log) (start_of log))) (last (refused_line 0 2))

-- a later line: "A refusal prints the offset of the unreadable record, `refused`, number, and stops"
abbrev pub next_shown : Next → ℕ → Shown
next_shown (next e p) at = more (entry_line at e) p
next_shown ended at = last (end_line at)
next_shown (stopped n) at = last (refused_line at n)

-- the line of the record at a position, by the edition that the first byte tells; the start is at 0
abbrev pub shown_at : List ℕ → ℕ → Shown
shown_at log at = cond (eqb at 0) (first_shown log) (next_shown (next_by Tolerant (edition_at log) log at) at)

abbrev pub text_of : Shown → List ℕ
text_of (more t p) = t
text_of (last t) = t

-- what a call says of the line that it fills in: how long it is, and where the next one is
pub data Said : Type 0 where
  on : ℕ → ℕ → Said
  over : ℕ → Said

abbrev pub said_of : Shown → Said
said_of (more t p) = on (length t) p
said_of (last t) = over (length t)

abbrev pub line_said : Result Line Refusal → Answer Said
line_said (Ok (line.More n p)) = given (on n p)
line_said (Ok (line.Last n)) = given (over n)
line_said (Err r) = refused (number_of r)

-- no line is longer than 80 bytes; "another lent slice has the wrong length": 2 where the buffer is shorter, which then stays
abbrev pub line_answer : List ℕ → Shown → Answer Said
line_answer buffer s = cond (leb 80 (length buffer)) (given (said_of s)) (refused 2)

abbrev pub line_after : List ℕ → Shown → List ℕ
line_after buffer s = cond (leb 80 (length buffer)) (put buffer 0 (text_of s)) buffer

-- the lines of any log fit, with room for one line more; 2 where the memory is shorter, which then stays
abbrev pub lines_size : ℕ
lines_size = 4 * most + 160

abbrev pub lines_answer : List ℕ → List ℕ → Answer ℕ
lines_answer out log = cond (leb lines_size (length out)) (given (length (lines_of log))) (refused 2)

-- the lines at the start, and every byte after them as it was
abbrev pub lines_after : List ℕ → List ℕ → List ℕ
lines_after out log = cond (leb lines_size (length out)) (put out 0 (lines_of log)) out
