-- Each test answers as the definition does; with both passed the mark and the zeros are the end record. Assumes nothing.
use Rattle.std.proofs.Common.{arith, ◌≡◌, ℕ, ◌+◌, ◌-◌, ◌*◌, ◌/◌, ◌≤◌, List, ◌++◌, leb, length, replicate, true, false, refl, sym, ap, ◌∙◌}
use borrow.Author.Tests.{leb-true}
use lib.ListN.{length-replicate}
use Rattle.answers.specs.Answers.{given, refused}
use Rattle.blocks.specs.Blocks.{put}
use Rattle.wal.specs.Log.{mark, mark_size, finished_length, end_record}
use Rattle.wal.specs.Writer.{capacity, position, edition_of, finish_answer}
use Rattle.wal.specs.declared.Writer.{Writer}
use Rattle.wal.specs.declared.Writer.TheVariants.{Finished}
use Rattle.wal_write.proofs.Bytes.{put_marked}
use Rattle.wal_write.proofs.CallLaws.{finish_tests, not_open, no_room, taken, refused_leaves, given_leaves}
use Rattle.wal_write.proofs.finish.Goals as goal
use Rattle.wal_write.proofs.finish.Goals.{After-room_at}

-- an open writer, and whether there is room
room : (c : After-room_at) → c.room_at.result ≡ leb (c.in-Open.at + 0 + mark_size c.in-Open.edition) (capacity c.args.log.now)
room c = c.room_at.ensures ∙ ap (λ (n : ℕ). leb (c.in-Open.at + 0 + n) (capacity c.args.log.now)) c.mark_size-mark.ensures

-- what is answered, and what is put, by the state
abbrev final_length : Writer → ℕ
final_length w = finished_length (edition_of w) (position w)

abbrev bytes : Writer → List ℕ
bytes w = end_record (edition_of w) (position w)

pub returns-in_default : goal.returns-in_default
returns-in_default c =
    let log = c.args.log.now in
    let w = c.args.w.now in
    refused_leaves (finish_answer log w) w (Finished (final_length w)) log (position w) (bytes w) 12 (refused 12) w
    (finish_tests log w ∙ not_open log w true false (λ e. 0) (given (final_length w)) c.in_default.not-Open) refl refl

pub returns-then-not-room_at : goal.returns-then-not-room_at
returns-then-not-room_at c =
    let log = c.args.log.now in
    let w = c.args.w.now in
    let full : leb (c.in-Open.at + 0 + mark_size c.in-Open.edition) (capacity log) ≡ false = sym (room (goal.at.returns-then-not-room_at c).After-room_at) ∙ c.if-not-room_at.true in
    refused_leaves (finish_answer log w) w (Finished (final_length w)) log (position w) (bytes w) 13 (refused 13) w
    (finish_tests log w ∙ no_room log w true false (λ e. 0) (given (final_length w)) c.in-Open.edition c.in-Open.at c.in-Open.is refl refl full) refl refl

pub returns : goal.returns
returns c =
    let log = c.args.log.now in
    let w = c.args.w.now in
    let ed = c.in-Open.edition in
    let p = c.in-Open.at in
    let m = c.mark_size-mark.result in
    let sized : m ≡ mark_size ed = c.mark_size-mark.ensures in
    let roomy : leb (p + 0 + mark_size ed) (capacity log) ≡ true = sym (room (goal.at.returns c).After-room_at) ∙ c.if-not-room_at.false in
    let within : (p + m + 4095) / 4096 * 4096 ≤ length log = omega (arith, leb-true (p + 0 + mark_size ed) (capacity log) roomy) in
    let n = c.next_multiple_of-len.result in
    let paged : n ≡ (p + m + 4095) / 4096 * 4096 = let e = c.next_multiple_of-len.ensures in omega (arith, e.lower_bound, e.upper_bound, e.multiple) in
    let zeros : List ℕ = replicate (n - (p + m)) 0 in
    let long : length zeros ≡ n - (p + m) = length-replicate (n - (p + m)) 0 in
    let same : n ≡ final_length w = paged ∙ ap (λ (x : ℕ). (p + x + 4095) / 4096 * 4096) sized ∙ sym (ap final_length c.in-Open.is) in
    given_leaves (finish_answer log w) w (Finished (final_length w)) log (position w) (bytes w) (final_length w) (given n) (Finished n) c.put_zeros.new.s
    (finish_tests log w ∙ taken log w true false (λ e. 0) (given (final_length w)) ed p c.in-Open.is refl refl roomy) (ap given same) (ap Finished same)
    (c.put_zeros.ensures
    ∙ ap (λ (l : List ℕ). put l (p + m) zeros) c.put_mark.ensures
    ∙ put_marked ed m sized log p 2 zeros (omega (arith, within, paged))
    ∙ ap (λ (x : ℕ). put log p (mark ed 2 ++ replicate (x - (p + m)) 0)) paged
    ∙ ap (λ (x : ℕ). put log p (mark ed 2 ++ replicate ((p + x + 4095) / 4096 * 4096 - (p + x)) 0)) sized
    ∙ sym (ap (λ (v : Writer). put log (position v) (bytes v)) c.in-Open.is))
