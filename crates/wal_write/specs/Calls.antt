-- 01, 'Writer': the state and the log after each call that writes a record, and the call that is lent a page; what each call promises.
-- Assumes nothing.
use Rattle.std.specs.Prelude.{◌≡◌, Bool, true, cond, List, map, ℕ, ◌+◌, ◌*◌, ◌/◌, ◌^◌, ◌<◌, leb, eqb, length, take, Result}
use Rattle.answers.specs.Answers.{Answer, given, refused, accepted, answer_of}
use Rattle.answers.specs.declared.Refusal.{Refusal}
use Rattle.blocks.specs.Blocks.{block}
use Rattle.page_diff.specs.Diff.{slots, count_of, reserved}
use Rattle.page_diff.specs.Pack.{node_at}
use Rattle.wal.specs.Log.{Entry, clear, update, record_of, mark_size, clear_size, update_size}
use Rattle.wal.specs.Writer.{position, edition_of, if_open, if_room, begin_answer, begin_writer, begin_log, clear_answer, update_answer, record_log, record_writer, finish_answer, finish_writer, finish_log}
use Rattle.wal.specs.Run.{WideStart, Wide, Rows}
use Rattle.wal.specs.declared.Start.{Start}
use Rattle.wal.specs.declared.Writer.{Writer}

-- the test of `if_room`, of a log's length and the bytes after the record's mark: "exactly when position + size + 1 is at most capacity"
abbrev pub room_in : ℕ → Writer → ℕ → Bool
room_in len w body = leb (position w + (mark_size (edition_of w) + body) + mark_size (edition_of w)) (len / 4096 * 4096)

-- after a clear
abbrev pub clear_writer : List ℕ → Writer → Writer
clear_writer log w = record_writer (clear_answer log w) w (clear_size (edition_of w))

abbrev pub clear_log : List ℕ → Writer → ℕ → List ℕ
clear_log log w b = record_log (clear_answer log w) log w (record_of (edition_of w) (clear b))

-- after an update lent a table of nodes with their count: "entries from the count on are .. ignored where a caller lends others"
abbrev pub update_writer : List ℕ → Writer → List ℕ → ℕ → Writer
update_writer log w ws held = record_writer (update_answer log w ws held) w (update_size (edition_of w) held)

abbrev pub update_log : List ℕ → Writer → List ℕ → List ℕ → List (List ℕ) → ℕ → List ℕ → ℕ → List ℕ
update_log log w id ws nodes held elided b =
    record_log (update_answer log w ws held) log w (record_of (edition_of w) (update id ws (take held nodes) elided b))

-- an update lent its page: 12, 2 where that is not a page, 4, 13
unfoldable pub page_update_answer : List ℕ → Writer → List ℕ → List ℕ → Answer (Unit {0})
page_update_answer log w ws page =
    if_open w
    (cond (eqb (length page) 4096) (cond (reserved ws) (refused 4) (if_room log w (update_size (edition_of w) (count_of ws)) (given tt)))
    (refused 2))

-- "An update is logged, with the record's id and the elided bytes that stand in its page"
abbrev pub page_update : List ℕ → List ℕ → List ℕ → ℕ → Entry
page_update id ws page b = update id ws (map (node_at page) (slots ws)) (block 8 page 4056) b

abbrev pub page_update_writer : List ℕ → Writer → List ℕ → List ℕ → Writer
page_update_writer log w ws page = record_writer (page_update_answer log w ws page) w (update_size (edition_of w) (count_of ws))

abbrev pub page_update_log : List ℕ → Writer → List ℕ → List ℕ → List ℕ → ℕ → List ℕ
page_update_log log w id ws page b =
    record_log (page_update_answer log w ws page) log w (record_of (edition_of w) (page_update id ws page b))

-- ---- what each call promises, of the log lent, the state, what else it is given, its answer r, the state v and the log afterwards: the
-- answer, the state and the log by the definitions above, and then the widths that its types give
abbrev pub Begins : List ℕ → Writer → Start → Result (Unit {0}) Refusal → Writer → List ℕ → Type 0
Begins log w start r v out =
    (answer_of r ≡ begin_answer log) × ((v ≡ begin_writer log w start.edition) × (out ≡ begin_log log start)) × WideStart start

abbrev pub Clears : List ℕ → Writer → ℕ → Result (Unit {0}) Refusal → Writer → List ℕ → Type 0
Clears log w b r v out =
    (answer_of r ≡ clear_answer log w) × ((v ≡ clear_writer log w) × (out ≡ clear_log log w b)) × (b < 2 ^ 64)

-- the nodes that an accepted update takes out of a table are nodes
abbrev pub Updates : List ℕ → Writer → List ℕ → List ℕ → List (List ℕ) → ℕ → List ℕ → ℕ → Result (Unit {0}) Refusal → Writer → List ℕ → Type 0
Updates log w id ws nodes held elided b r v out =
    (answer_of r ≡ update_answer log w ws held)
    × ((v ≡ update_writer log w ws held) × (out ≡ update_log log w id ws nodes held elided b))
    × Wide id ws elided b
    × (accepted (update_answer log w ws held) ≡ true → Rows nodes held)

abbrev pub UpdatesPage : List ℕ → Writer → List ℕ → List ℕ → List ℕ → ℕ → Result (Unit {0}) Refusal → Writer → List ℕ → Type 0
UpdatesPage log w id ws page b r v out =
    (answer_of r ≡ page_update_answer log w ws page)
    × ((v ≡ page_update_writer log w ws page) × (out ≡ page_update_log log w id ws page b))
    × Wide id ws (block 8 page 4056) b

abbrev pub Finishes : List ℕ → Writer → Result ℕ Refusal → Writer → List ℕ → Type 0
Finishes log w r v out = (answer_of r ≡ finish_answer log w) × ((v ≡ finish_writer log w) × (out ≡ finish_log log w))
