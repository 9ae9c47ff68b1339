-- 01, 'Writer': "Statements on finished logs are for one slice that nobody else writes from begin to finish, each call given the state
-- last answered." Such a run, and the log that it makes. Assumes nothing.
use Rattle.std.specs.Prelude.{◌≡◌, true, false, List, [], ◌∷◌, ◌++◌, ℕ, ◌+◌, ◌<◌, ◌^◌, length, get_or}
use Rattle.answers.specs.Answers.{accepted}
use Rattle.page_diff.specs.Diff.{count_of, reserved}
use Rattle.wal.specs.Log.{Entry, clear, update, record_of, start_record, start_size, records_of, clear_size, update_size, end_record}
use Rattle.wal.specs.Writer.{edition_of, begin_answer, begin_log, begin_writer, clear_answer, update_answer, record_log, record_writer}
use Rattle.wal.specs.declared.Start.{Start}
use Rattle.wal.specs.declared.Writer.{Writer}

-- what the types of a change's id and diff say: their widths
pub record WideChange (id ws : List ℕ) : Type 0 where
  pub id_long : length id ≡ 32
  pub two_words : length ws ≡ 2
  pub low_word : get_or ws 0 0 < 2 ^ 64
  pub high_word : get_or ws 1 0 < 2 ^ 64

-- and those of an update's parts
pub record Wide (id ws elided : List ℕ) (b : ℕ) : Type 0 where
  pub change : WideChange id ws
  pub elided_long : length elided ≡ 8
  pub bucket : b < 2 ^ 64

-- and of its nodes: the first n rows of a table are nodes
abbrev pub Rows : List (List ℕ) → ℕ → Type 0
Rows ns n = (i : ℕ) → i < n → length (get_or ns i []) ≡ 32

-- an update that a call can hand over: every part has its width, and the diff marks nodes alone
pub record Handed (id ws : List ℕ) (ns : List (List ℕ)) (elided : List ℕ) (b : ℕ) : Type 0 where
  pub wide : Wide id ws elided b
  pub plain : reserved ws ≡ false
  pub counted : length ns ≡ count_of ws
  pub rows : Rows ns (length ns)

-- an entry that a call can hand over
abbrev pub WellFormed : Entry → Type 0
WellFormed (clear b) = b < 2 ^ 64
WellFormed (update id ws ns elided b) = Handed id ws ns elided b

-- what the types of a start say: its widths
pub record WideStart (start : Start) : Type 0 where
  pub number : start.sync < 2 ^ 32
  pub seed_long : length start.seed ≡ 16

-- accepted calls, one after the other, on a slice that held log₀: the state and the log they leave, and the entries they wrote
pub data Run (log₀ : List ℕ) (start : Start) : Writer → List ℕ → List Entry → Type 0 where
  begun : (w : Writer) → WideStart start → accepted (begin_answer log₀) ≡ true → Run log₀ start (begin_writer log₀ w start.edition) (begin_log log₀ start) []
  with_clear : (w : Writer) (log : List ℕ) (es : List Entry) (b : ℕ) → Run log₀ start w log es → b < 2 ^ 64 → accepted (clear_answer log w) ≡ true
      → Run log₀ start (record_writer (clear_answer log w) w (clear_size (edition_of w))) (record_log (clear_answer log w) log w (record_of (edition_of w) (clear b))) (es ++ (clear b ∷ []))
  with_update : (w : Writer) (log : List ℕ) (es : List Entry) (id ws : List ℕ) (ns : List (List ℕ)) (elided : List ℕ) (b : ℕ)
      → Run log₀ start w log es → Handed id ws ns elided b → accepted (update_answer log w ws (length ns)) ≡ true
      → Run log₀ start (record_writer (update_answer log w ws (length ns)) w (update_size (edition_of w) (length ns)))
      (record_log (update_answer log w ws (length ns)) log w (record_of (edition_of w) (update id ws ns elided b)))
      (es ++ (update id ws ns elided b ∷ []))

-- where the end of the log of some entries stands, and the whole log: start, records, end, zeros
abbrev pub end_of : Start → List Entry → ℕ
end_of start es = start_size start.edition + length (records_of start.edition es)

abbrev pub log_of : Start → List Entry → List ℕ
log_of start es = start_record start ++ (records_of start.edition es ++ end_record start.edition (end_of start es))
