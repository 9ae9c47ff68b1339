-- What the inner steps of a change say: what it is to do, and what it will have done. Assumes nothing.
use Rattle.std.specs.Prelude.{◌≡◌, true, false, List, ℕ, ◌<◌, length, Result, Ok, Err}
use Rattle.answers.specs.Answers.{Answer, given, refused}
use Rattle.answers.specs.Refusals.{number_of}
use Rattle.answers.specs.declared.Refusal.{Refusal}
use Rattle.page_diff.specs.Diff.{count_of, reserved}
use Rattle.wal.specs.Log.{clear_body, update_body}
use Rattle.wal_write.specs.Calls.{room_in}
use Rattle.sync.specs.Change.{Mem, Does, clears, updates, allocates, does_of, Effect, cleared, updated, allocated, after_does}
use Rattle.sync.specs.declared.Change.{Change}
use Rattle.sync.specs.declared.SyncState.{SyncState}
use Rattle.sync.specs.declared.Planned.{Planned}
use Rattle.sync.specs.declared.Planned.TheVariants as P
use Rattle.sync.specs.declared.Outlook.{Outlook}
use Rattle.sync.specs.declared.Outlook.TheVariants as O

-- what the code's inner answers say
abbrev pub planned_said : Result Planned Refusal → Answer Does
planned_said (Ok (P.Clears b)) = given (clears b)
planned_said (Ok (P.Updates b)) = given (updates b)
planned_said (Ok P.Allocates) = given allocates
planned_said (Err r) = refused (number_of r)

abbrev pub outlook_said : Result Outlook Refusal → Answer Effect
outlook_said (Ok (O.Clears b)) = given (cleared b)
outlook_said (Ok (O.Updates b)) = given (updated b)
outlook_said (Ok (O.Takes b)) = given (allocated b)
outlook_said (Err r) = refused (number_of r)

-- what an outlook rests on: the bucket is inside the table, its record has room, and an update's diff marks nodes alone
abbrev pub outlook_fits : Result Outlook Refusal → SyncState → List ℕ → Change → Type 0
outlook_fits (Ok (O.Clears b)) st log c = (b < st.n) × (room_in (length log) st.writer clear_body ≡ true)
outlook_fits (Ok (O.Updates b)) st log c =
    (b < st.n) × (room_in (length log) st.writer (update_body (count_of c.diff.words)) ≡ true) × (reserved c.diff.words ≡ false)
outlook_fits (Ok (O.Takes b)) st log c =
    (b < st.n) × (room_in (length log) st.writer (update_body (count_of c.diff.words)) ≡ true) × (reserved c.diff.words ≡ false)
outlook_fits (Err r) st log c = Unit {0}

-- what the look ahead promises: what the change comes to, and what that rests on
abbrev pub LookPromise : SyncState → Mem → Change → Result Outlook Refusal → Type 0
LookPromise st m c r = (outlook_said r ≡ after_does st m c (does_of st.n m.tags m.cells c)) × outlook_fits r st m.log c
