-- 01, 'Reading off a log', and 02, W-207 and W-208: the lines of `list`, byte for byte, of a log of either edition. Assumes nothing.
use Rattle.std.specs.Prelude.{cond, List, [], ◌∷◌, ◌++◌, ℕ, zero, suc, ◌+◌, ◌/◌, ◌%◌, leb, ltb, eqb, length}
use Prim.Native.Char.{code}
use Prim.Native.String as text
use Prim.Native.String.{String}
use Rattle.answers.specs.Answers.{Answer, given, refused}
use Rattle.page_diff.specs.Diff.{count_of}
use Rattle.wal.specs.Log.{Entry, clear, update, start_size, clear_size, update_size}
use Rattle.wal.specs.Reader.{edition_at, start_of, Reading, read_log}
use Rattle.wal.specs.declared.AfterEnd.TheVariants.{Tolerant}
use Rattle.wal.specs.declared.Edition.{Edition}

-- the bytes of a text
abbrev pub ascii : String → List ℕ
ascii text.[] = []
ascii (text.◌∷◌ c s) = code c ∷ ascii s

-- a number in decimal, by a bound on the count of its digits
unfoldable pub digits_in : ℕ → ℕ → List ℕ
digits_in zero n = []
digits_in (suc f) n = cond (ltb n 10) ((48 + n) ∷ []) (digits_in f (n / 10) ++ ((48 + n % 10) ∷ []))

-- no number here has more than 20
abbrev pub decimal : ℕ → List ℕ
decimal n = digits_in 20 n

-- "Each line is byte offset of the record, kind, fields": "start and sync number; clear and bucket; update, bucket, count; end"; "A refusal
-- prints the offset of the unreadable record, `refused`, number"
abbrev pub start_line : ℕ → List ℕ
start_line sync = decimal 0 ++ ascii " start " ++ decimal sync ++ ascii "\n"

abbrev pub entry_line : ℕ → Entry → List ℕ
entry_line at (clear b) = decimal at ++ ascii " clear " ++ decimal b ++ ascii "\n"
entry_line at (update id ws ns elided b) = decimal at ++ ascii " update " ++ decimal b ++ ascii " " ++ decimal (count_of ws) ++ ascii "\n"

abbrev pub end_line : ℕ → List ℕ
end_line at = decimal at ++ ascii " end\n"

abbrev pub refused_line : ℕ → ℕ → List ℕ
refused_line at n = decimal at ++ ascii " refused " ++ decimal n ++ ascii "\n"

-- the lines of entries that stand one after the other from `at` on: "`list` (its lines unchanged)", at the offsets of the edition
abbrev pub size_of : Edition → Entry → ℕ
size_of ed (clear b) = clear_size ed
size_of ed (update id ws ns elided b) = update_size ed (count_of ws)

unfoldable pub entry_lines : Edition → ℕ → List Entry → List ℕ
entry_lines ed at [] = []
entry_lines ed at (e ∷ es) = entry_line at e ++ entry_lines ed (at + size_of ed e) es

-- the line at which the reading stops
abbrev pub stop_line : ℕ → Answer (Unit {0}) → List ℕ
stop_line at (given a) = end_line at
stop_line at (refused n) = refused_line at n

abbrev pub reading_lines : Edition → ℕ → Reading → List ℕ
reading_lines ed at r = entry_lines ed at r.entries ++ stop_line r.at r.stop

-- "`list` moves to the tolerant reader"
abbrev pub started_lines : Answer ℕ → List ℕ → List ℕ
started_lines (given sync) log = start_line sync ++ reading_lines (edition_at log) (start_size (edition_at log)) (read_log Tolerant log)
started_lines (refused n) log = refused_line 0 n

-- "a log of at most 65,536 bytes on standard input (longer: `0 refused 2`; none: `empty`)"
abbrev pub most : ℕ
most = 65536

unfoldable pub lines_of : List ℕ → List ℕ
lines_of log = cond (leb (length log) most) (cond (eqb (length log) 0) (ascii "empty\n") (started_lines (start_of log) log)) (refused_line 0 2)
