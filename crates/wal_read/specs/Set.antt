-- 01, 'Reader', and 02, W-208: "a reader set on a lent log", and what it gives. Assumes nothing.
use Rattle.std.specs.Prelude.{◌≡◌, List, [], ◌∷◌, ℕ, Result, Ok, Err}
use Rattle.std.specs.Borrow.{Bor}
use Rattle.answers.specs.Answers.{Answer, given, refused, answer_of}
use Rattle.answers.specs.declared.Refusal.{Refusal}
use Rattle.wal.specs.Log.{start_size}
use Rattle.wal.specs.Reader.{Next, stopped, edition_at, start_of, next_by}
use Rattle.wal.specs.declared.AfterEnd.{AfterEnd}
use Rattle.wal.specs.declared.AfterEnd.TheVariants.{Tolerant}
use Rattle.wal.specs.declared.Edition.{Edition}
use Rattle.wal_read.specs.Entry.{Taken}
use Rattle.wal_read.specs.declared.What.{What}
use Rattle.wal_read.specs.declared.What.TheVariants as what
use Rattle.wal_read.specs.declared.WalBlobReader.{WalBlobReader}
use Rattle.wal_read.specs.declared.WalEntry.{WalEntry}

-- where the first entry of a log stands
abbrev pub first_at : List ℕ → ℕ
first_at log = start_size (edition_at log)

-- what a reader of an edition gives at a position, by what it wants after end and what its start answered: the entry there, or the start's refusal
abbrev pub gives_by : AfterEnd → Edition → Answer ℕ → List ℕ → ℕ → Next
gives_by rule ed (given sync) log at = next_by rule ed log at
gives_by rule ed (refused n) log at = stopped n

-- ours reads by the log's own edition
abbrev pub gives_at : AfterEnd → Answer ℕ → List ℕ → ℕ → Next
gives_at rule a log at = gives_by rule (edition_at log) a log at

-- "Setting it reads the start and gives the sync number"; it then stands before the first entry
pub record SetOn (rule : AfterEnd) (log : Bor (List ℕ)) (r : WalBlobReader) : Type 0 where
  pub log_is : r.log ≡ log
  pub at_is : r.at ≡ first_at log.now
  pub start_is : answer_of r.start ≡ start_of log.now
  pub rule_is : r.rule ≡ rule

-- "Tolerant calls with the former rule remain": the reader with that rule
abbrev pub as_tolerant : WalBlobReader → WalBlobReader
as_tolerant r = record { log = r.log; at = r.at; start = r.start; rule = Tolerant }

-- the entry at which it stands
abbrev pub Gives : WalBlobReader → WalEntry → Type 0
Gives r e = Taken (gives_at r.rule (answer_of r.start) r.log.now r.at) r.at e

-- "gives the next entry and moves on; each entry is taken apart or the reading stops there, position unchanged"
pub record Reads (r : WalBlobReader) (e : WalEntry) (after : WalBlobReader) : Type 0 where
  pub entry_is : Gives r e
  pub log_stays : after.log ≡ r.log
  pub at_moves : after.at ≡ e.next
  pub start_stays : after.start ≡ r.start
  pub rule_stays : after.rule ≡ r.rule

-- an answer that ends the reading
pub data Over : Result What Refusal → Type 0 where
  at_end : Over (Ok what.End)
  at_refusal : (why : Refusal) → Over (Err why)

-- calls one after the other on one reader, with what each answers
pub data Calls : WalBlobReader → List WalEntry → WalBlobReader → Type 0 where
  none : {r : WalBlobReader} → Calls r [] r
  call : {r after last : WalBlobReader} {e : WalEntry} {es : List WalEntry} → Reads r e after → Calls after es last → Calls r (e ∷ es) last
