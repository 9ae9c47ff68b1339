-- Each test answers as the definition does; with both passed the record is put where the writer stands. Assumes nothing.
use Rattle.std.proofs.Common.{◌≡◌, ℕ, ◌+◌, leb, true, false, refl, sym, ap, ◌∙◌}
use Rattle.answers.specs.Answers.{given, refused}
use Rattle.wal.specs.Log.{clear, mark_size, record_of, clear_size}
use Rattle.wal.specs.Writer.{open_at, capacity, clear_answer}
use Rattle.wal.specs.declared.Edition.{Edition}
use Rattle.wal_write.proofs.CallLaws.{clear_tests, not_open, no_room, taken, record_refused, record_given}
use Rattle.wal_write.proofs.write_clear.Goals as goal
use Rattle.wal_write.proofs.write_clear.Goals.{After-room_at, Else-not-room_at}

-- an open writer, and whether there is room
room : (c : After-room_at) → c.room_at.result ≡ leb (c.in-Open.at + clear_size c.in-Open.edition + mark_size c.in-Open.edition) (capacity c.args.log.now)
room c = c.room_at.ensures ∙ ap (λ (n : ℕ). leb (c.in-Open.at + (n + 8) + n) (capacity c.args.log.now)) c.mark_size-mark.ensures

pub returns-in_default : goal.returns-in_default
returns-in_default c =
    let a = c.args in
    let log = a.log.now in
    let w = a.w.now in
    let left = record_refused (clear_answer log w) log w clear_size (λ (ed : Edition). record_of ed (clear a.bucket)) 12 (refused 12) w
    (clear_tests log w ∙ not_open log w true false clear_size (given tt) c.in_default.not-Open) refl refl in
    (left.0, left.1, c.ranges.bucket.fits)

pub returns-then-not-room_at : goal.returns-then-not-room_at
returns-then-not-room_at c =
    let a = c.args in
    let log = a.log.now in
    let w = a.w.now in
    let full : leb (c.in-Open.at + clear_size c.in-Open.edition + mark_size c.in-Open.edition) (capacity log) ≡ false = sym (room (goal.at.returns-then-not-room_at c).After-room_at) ∙ c.if-not-room_at.true in
    let left = record_refused (clear_answer log w) log w clear_size (λ (ed : Edition). record_of ed (clear a.bucket)) 13 (refused 13) w
    (clear_tests log w ∙ no_room log w true false clear_size (given tt) c.in-Open.edition c.in-Open.at c.in-Open.is refl refl full) refl refl in
    (left.0, left.1, c.ranges.bucket.fits)

pub returns : goal.returns
returns c =
    let a = c.args in
    let log = a.log.now in
    let w = a.w.now in
    let ed = c.in-Open.edition in
    let at = c.in-Open.at in
    let roomy : leb (at + clear_size ed + mark_size ed) (capacity log) ≡ true = sym (room (goal.at.returns c).After-room_at) ∙ c.if-not-room_at.false in
    let left = record_given (clear_answer log w) log w clear_size (λ (ed : Edition). record_of ed (clear a.bucket)) ed at (open_at ed (at + (c.mark_size-mark.result + 8))) c.put_clear.new.log c.in-Open.is
    (clear_tests log w ∙ taken log w true false clear_size (given tt) ed at c.in-Open.is refl refl roomy) (ap (λ (n : ℕ). open_at ed (at + (n + 8))) c.mark_size-mark.ensures) c.put_clear.ensures in
    (left.0, left.1, c.ranges.bucket.fits)
