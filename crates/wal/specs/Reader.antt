-- 01, 'Reader', and 02, W-207 and W-208: what reading a log of an edition at a position gives. 01's reader is the tolerant one of edition one.
-- Assumes nothing.
use Rattle.std.specs.Prelude.{Bool, true, false, cond, ◌&&◌, List, [], ◌∷◌, ℕ, zero, suc, ◌+◌, ◌*◌, ◌%◌, leb, eqb, length, get_or, drop}
use Rattle.answers.specs.Answers.{Answer, given, refused}
use Rattle.blocks.specs.Blocks.{le, block, all_zero}
use Rattle.page_diff.specs.Diff.{words_of, count_of, reserved}
use Rattle.wal.specs.Log.{Entry, clear, update, mark_size, start_size, clear_body, update_body}
use Rattle.wal.specs.declared.AfterEnd.{AfterEnd}
use Rattle.wal.specs.declared.AfterEnd.TheVariants.{Zeros, Tolerant}
use Rattle.wal.specs.declared.Edition.{Edition}
use Rattle.wal.specs.declared.Edition.TheVariants.{One, Two}

-- "The first byte tells: 1 or 0xB2"
abbrev pub edition_at : List ℕ → Edition
edition_at log = cond (eqb (get_or log 0 0) 0xB2) Two One

-- the mark of a tag stands at a position
abbrev pub marks_at : Edition → List ℕ → ℕ → ℕ → Bool
marks_at One log at tag = eqb (get_or log at 0) tag
marks_at Two log at tag = eqb (get_or log at 0) 0xB2 && eqb (get_or log (at + 1) 0) tag

-- "Setting it reads the start and gives the sync number"; "The reader when set: 5, then 6 for an empty log, 7"; "a 0xB2 not followed by 1 is 7"
unfoldable pub start_in : Edition → List ℕ → Answer ℕ
start_in ed log =
    cond (eqb (length log % 4096) 0)
    (cond (eqb (length log) 0) (refused 6) (cond (marks_at ed log 0 1) (given (le (block 4 log (mark_size ed)))) (refused 7)))
    (refused 5)

abbrev pub start_of : List ℕ → Answer ℕ
start_of log = start_in (edition_at log) log

-- the seed in the start of a log of edition two
unfoldable pub seed_of : List ℕ → List ℕ
seed_of log = block 16 log (mark_size Two + 4)

-- what stands at a position: an entry with the position after it, the end, or the number of a refusal
pub data Next : Type 0 where
  next : Entry → ℕ → Next
  ended : Next
  stopped : ℕ → Next

-- a clear, read from p on, the position after its mark: 6 where the log ends inside it
unfoldable pub clear_at : List ℕ → ℕ → Next
clear_at log p = cond (leb (p + clear_body) (length log)) (next (clear (le (block 8 log p))) (p + clear_body)) (stopped 6)

-- the c nodes from position p on
unfoldable pub nodes_from : List ℕ → ℕ → ℕ → List (List ℕ)
nodes_from log p zero = []
nodes_from log p (suc c) = block 32 log p ∷ nodes_from log (p + 32) c

-- the diff of an update, read from p on
abbrev pub diff_at : List ℕ → ℕ → List ℕ
diff_at log p = words_of (block 16 log (p + 32))

-- the update, all of it there
unfoldable pub update_of : List ℕ → ℕ → Entry
unfolding nodes_from
update_of log p =
    let c : ℕ = count_of (diff_at log p) in
    update (block 32 log p) (diff_at log p) (nodes_from log (p + 48) c) (block 8 log (p + 48 + 32 * c)) (le (block 8 log (p + 56 + 32 * c)))

-- "in an update: 6 up to the diff, 4, 6"
unfoldable pub update_at : List ℕ → ℕ → Next
unfolding update_of
update_at log p =
    cond (leb (p + 48) (length log))
    (cond (reserved (diff_at log p)) (stopped 4)
    (cond (leb (p + update_body (count_of (diff_at log p))) (length log))
    (next (update_of log p) (p + update_body (count_of (diff_at log p))))
    (stopped 6)))
    (stopped 6)

-- "clear = 3", "update = 4", "end = 2", "later tag unknown": 8
abbrev pub by_tag : ℕ → List ℕ → ℕ → Next
by_tag t log p = cond (eqb t 2) ended (cond (eqb t 3) (clear_at log p) (cond (eqb t 4) (update_at log p) (stopped 8)))

-- by the tag of the mark at a position; "log ends .. before end": 6. In edition two "for a mark whose first byte isn't 0xB2 the number is 8,
-- at the log's last byte too; a 0xB2 as the last byte there is 6"
abbrev pub by_mark : {A : Type 0} → Edition → List ℕ → ℕ → (ℕ → A) → (ℕ → A) → A
by_mark One log at tagged none = cond (leb (at + 1) (length log)) (tagged (get_or log at 0)) (none 6)
by_mark Two log at tagged none =
    cond (leb (at + 1) (length log))
    (cond (eqb (get_or log at 0) 0xB2) (cond (leb (at + 2) (length log)) (tagged (get_or log (at + 1) 0)) (none 6)) (none 8))
    (none 6)

-- that tag, or the refusal
abbrev pub tag_at : Edition → List ℕ → ℕ → Answer ℕ
tag_at ed log at = by_mark ed log at given refused

-- the mark at a position, and what stands after it
unfoldable pub next_at : Edition → List ℕ → ℕ → Next
unfolding clear_at update_at
next_at ed log at = by_mark ed log at (λ t. by_tag t log (at + mark_size ed)) stopped

-- "What follows end": from p on, where the mark of end is over, up to the end of the lent log. "The reader (on coming to end) and replay want
-- zeros there by default. Tolerant calls with the former rule remain"
abbrev pub wanted : AfterEnd → List ℕ → ℕ → Bool
wanted Zeros log p = all_zero (drop p log)
wanted Tolerant log p = true

-- "27, a byte after end not zero, from the reader in place of end"
abbrev pub on_end : Bool → Next → Next
on_end true x = x
on_end false (next e p) = next e p
on_end false ended = stopped 27
on_end false (stopped n) = stopped n

-- what a reader gives at a position, by what it wants after end
abbrev pub next_by : AfterEnd → Edition → List ℕ → ℕ → Next
next_by rule ed log at = on_end (wanted rule log (at + mark_size ed)) (next_at ed log at)

-- the whole of a log from a position on: its entries, where the reading stops, and at what: the end, or a refusal
pub record Reading : Type 0 where
  pub entries : List Entry
  pub at : ℕ
  pub stop : Answer (Unit {0})

abbrev pub stop_at : ℕ → Answer (Unit {0}) → Reading
stop_at at a = record { entries = []; at = at; stop = a }

abbrev pub and_then : Entry → Reading → Reading
and_then e r = record { entries = e ∷ r.entries; at = r.at; stop = r.stop }

-- by what stands there: "each entry is taken apart or the reading stops there"
abbrev pub read_on : Next → ℕ → (ℕ → Reading) → Reading
read_on (next e p) at rest = and_then e (rest p)
read_on ended at rest = stop_at at (given tt)
read_on (stopped n) at rest = stop_at at (refused n)

-- the entries from a position on, by what stands at each and a bound on how many there can be
unfoldable pub read_by : (ℕ → Next) → ℕ → ℕ → Reading
read_by step zero at = read_on (step at) at (λ p. stop_at p (refused 6))
read_by step (suc f) at = read_on (step at) at (λ p. read_by step f p)

abbrev pub read_in : AfterEnd → Edition → ℕ → List ℕ → ℕ → Reading
read_in rule ed f log at = read_by (λ p. next_by rule ed log p) f at

-- the bytes of the log are such a bound
abbrev pub read_from : AfterEnd → Edition → List ℕ → ℕ → Reading
read_from rule ed log at = read_in rule ed (length log) log at

-- a whole log, after its start, read as of an edition, and as of its own
abbrev pub read_after_start : AfterEnd → Edition → List ℕ → Reading
read_after_start rule ed log = read_from rule ed log (start_size ed)

abbrev pub read_log : AfterEnd → List ℕ → Reading
read_log rule log = read_after_start rule (edition_at log) log
