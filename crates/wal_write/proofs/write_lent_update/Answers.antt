-- Each test answers as the definition does; with all passed the record is put part by part. Assumes nothing.
use Rattle.std.proofs.Common.{rules, arith, ◌≡◌, ℕ, ◌+◌, ◌-◌, ◌*◌, ◌≤◌, List, ◌++◌, leb, eqb, length, get_or, take, true, false, refl, sym, ap, ◌∙◌}
use Rattle.std.specs.Prelude.{Err}
use mathlib.Core.Bool.{true≢false}
use mir.Syntax.{w64}
use mir.Val.{Fits}
use borrow.Author.Tests.{leb-true, eq-eqb, ne_eqb}
use Rattle.answers.specs.Answers.{given, refused, accepted}
use Rattle.answers.specs.Refusals.{number_of}
use Rattle.answers.specs.declared.Refusal.{Refusal}
use Rattle.answers.specs.declared.Refusal.TheVariants.{LengthUnfit, DiffReserved, WriterNotOpen, NoRoom}
use Rattle.blocks.specs.Blocks.{bytes_of, put, flat}
use Rattle.page_diff.specs.Diff.{count_of, reserved}
use Rattle.page_diff.proofs.Walk.{plain_count}
use Rattle.wal.specs.Log.{update, mark_size, record_of, update_size}
use Rattle.wal.specs.Writer.{open_at, capacity, update_answer}
use Rattle.wal.specs.Run.{Wide}
use Rattle.wal.specs.declared.Edition.{Edition}
use Rattle.wal.proofs.Records.{mark_small}
use Rattle.wal_write.specs.Calls.{Updates}
use Rattle.wal_write.proofs.Bytes.{put_update}
use Rattle.wal_write.proofs.CallLaws.{update_tests, not_open, unfit, reserved_bit, no_room, taken, record_refused, record_given}
use Rattle.wal_write.proofs.write_lent_update.Goals as goal
use Rattle.wal_write.proofs.write_lent_update.Goals.{Start, Else-is_reserved, After-room_at, Else-not-room_at}

-- the record's size and bytes by the edition
abbrev bytes : Start → Edition → List ℕ
bytes c ed = record_of ed (update c.args.id c.args.d.words (take c.args.held c.args.nodes.now) c.args.elided c.args.bucket)

-- the widths that the types give
wide : (c : Start) → Wide c.args.id c.args.d.words c.args.elided c.args.bucket
wide c =
    let low : Fits w64 (get_or c.args.d.words 0 0) = search rules in
    let high : Fits w64 (get_or c.args.d.words 1 0) = search rules in
    record {
      change = record { id_long = search rules; two_words = search rules; low_word = low.fits; high_word = high.fits };
      elided_long = search rules;
      bucket = c.ranges.bucket.fits;
    }

-- a refused call
refused-call : (c : Start) (r : Refusal) → update_answer c.args.log.now c.args.w.now c.args.d.words c.args.held ≡ refused (number_of r)
    → Updates c.args.log.now c.args.w.now c.args.id c.args.d.words c.args.nodes.now c.args.held c.args.elided c.args.bucket (Err r) c.args.w.now c.args.log.now
refused-call c r e =
    let left = record_refused (update_answer c.args.log.now c.args.w.now c.args.d.words c.args.held) c.args.log.now c.args.w.now (λ ed. update_size ed c.args.held) (bytes c) (number_of r) (refused (number_of r)) c.args.w.now e refl refl in
    (left.0, left.1, wide c, λ ok. absurd (true≢false (sym ok ∙ ap accepted e)))

-- as many nodes as the diff marks, and marks of nodes alone
counted : (c : Else-is_reserved) → c.args.held ≡ count_of c.args.d.words
counted c = sym c.if-count-held.false ∙ c.count.ensures

fit : (c : Else-is_reserved) → eqb c.args.held (count_of c.args.d.words) ≡ true
fit c = eq-eqb c.args.held (count_of c.args.d.words) (counted c)

plain : (c : Else-is_reserved) → reserved c.args.d.words ≡ false
plain c = sym c.is_reserved.ensures ∙ c.if-is_reserved.false

few : (c : Else-is_reserved) → c.args.held ≤ 126
few c = let k = counted c in omega (arith, k, plain_count c.args.d.words (plain c))

-- the test of room, of the mark's size that the definition has
room : (c : After-room_at) → c.room_at.result ≡ leb (c.in-Open.at + update_size c.in-Open.edition c.args.held + mark_size c.in-Open.edition) (capacity c.args.log.now)
room c = c.room_at.ensures ∙ ap (λ (n : ℕ). leb (c.in-Open.at + (n + (64 + 32 * c.args.held)) + n) (capacity c.args.log.now)) c.mark_size-mark.ensures

roomy : (c : Else-not-room_at) → leb (c.in-Open.at + update_size c.in-Open.edition c.args.held + mark_size c.in-Open.edition) (capacity c.args.log.now) ≡ true
roomy c = sym (room (goal.at.Else-not-room_at c).After-room_at) ∙ c.if-not-room_at.false

fits : (c : Else-not-room_at) → c.in-Open.at + (c.mark_size-mark.result + (64 + 32 * c.args.held)) ≤ length c.args.log.now
fits c = omega (arith, leb-true (c.in-Open.at + update_size c.in-Open.edition c.args.held + mark_size c.in-Open.edition) (capacity c.args.log.now) (roomy c), c.mark_size-mark.ensures)

pub returns-in_default : goal.returns-in_default
returns-in_default c =
    let a = c.args in
    refused-call (goal.at.returns-in_default c).Start WriterNotOpen
    (update_tests a.log.now a.w.now a.d.words a.held ∙ not_open a.log.now a.w.now (eqb a.held (count_of a.d.words)) (reserved a.d.words) (λ ed. update_size ed a.held) (given tt) c.in_default.not-Open)

pub returns-then-count-held : goal.returns-then-count-held
returns-then-count-held c =
    let a = c.args in
    refused-call (goal.at.returns-then-count-held c).Start LengthUnfit
    (update_tests a.log.now a.w.now a.d.words a.held
    ∙ unfit a.log.now a.w.now (eqb a.held (count_of a.d.words)) (reserved a.d.words) (λ ed. update_size ed a.held) (given tt) c.in-Open.edition c.in-Open.at c.in-Open.is
    (ne_eqb a.held (count_of a.d.words) (λ q. c.if-count-held.true (c.count.ensures ∙ sym q))))

pub returns-then-is_reserved : goal.returns-then-is_reserved
returns-then-is_reserved c =
    let a = c.args in
    let fit : eqb a.held (count_of a.d.words) ≡ true = eq-eqb a.held (count_of a.d.words) (sym c.if-count-held.false ∙ c.count.ensures) in
    refused-call (goal.at.returns-then-is_reserved c).Start DiffReserved
    (update_tests a.log.now a.w.now a.d.words a.held
    ∙ reserved_bit a.log.now a.w.now (eqb a.held (count_of a.d.words)) (reserved a.d.words) (λ ed. update_size ed a.held) (given tt) c.in-Open.edition c.in-Open.at c.in-Open.is
    fit (sym c.is_reserved.ensures ∙ c.if-is_reserved.true))

pub overflow_mul-size : goal.overflow_mul-size
overflow_mul-size c = omega (arith, few (goal.at.overflow_mul-size c).Else-is_reserved)

pub overflow_add-size : goal.overflow_add-size
overflow_add-size c = omega (arith, few (goal.at.overflow_add-size c).Else-is_reserved)

pub overflow_add-size-2 : goal.overflow_add-size-2
overflow_add-size-2 c = omega (arith, few (goal.at.overflow_add-size-2 c).Else-is_reserved, c.mark_size-mark.ensures, mark_small c.in-Open.edition)

pub returns-then-not-room_at : goal.returns-then-not-room_at
returns-then-not-room_at c =
    let a = c.args in
    let k = (goal.at.returns-then-not-room_at c).Else-is_reserved in
    refused-call (goal.at.returns-then-not-room_at c).Start NoRoom
    (update_tests a.log.now a.w.now a.d.words a.held
    ∙ no_room a.log.now a.w.now (eqb a.held (count_of a.d.words)) (reserved a.d.words) (λ ed. update_size ed a.held) (given tt) c.in-Open.edition c.in-Open.at c.in-Open.is
    (fit k) (plain k) (sym (room (goal.at.returns-then-not-room_at c).After-room_at) ∙ c.if-not-room_at.true))

pub put_nodes-requires : goal.put_nodes-requires
put_nodes-requires c = (few (goal.at.put_nodes-requires c).Else-is_reserved, omega (arith, fits (goal.at.put_nodes-requires c).Else-not-room_at, c.put_head.auto.log))

pub returns : goal.returns
returns c =
    let a = c.args in
    let log = a.log.now in
    let w = a.w.now in
    let ws = a.d.words in
    let ed = c.in-Open.edition in
    let at = c.in-Open.at in
    let m = c.mark_size-mark.result in
    let k = (goal.at.returns c).Else-is_reserved in
    let past = (goal.at.returns c).Else-not-room_at in
    let ns : List (List ℕ) = take a.held a.nodes.now in
    let end : List ℕ = a.elided ++ bytes_of 8 a.bucket in
    let left = record_given (update_answer log w ws a.held) log w (λ (e : Edition). update_size e a.held) (bytes (goal.at.returns c).Start) ed at (open_at ed (at + (m + (64 + 32 * a.held)))) c.put_tail.new.log c.in-Open.is
    (update_tests log w ws a.held ∙ taken log w (eqb a.held (count_of ws)) (reserved ws) (λ (e : Edition). update_size e a.held) (given tt) ed at c.in-Open.is (fit k) (plain k) (roomy past))
    (ap (λ (n : ℕ). open_at ed (at + (n + (64 + 32 * a.held)))) c.mark_size-mark.ensures)
    (c.put_tail.ensures.0
    ∙ ap (λ (l : List ℕ). put l (at + (m + (64 + 32 * a.held) - 16)) end) (c.put_nodes.ensures.0 ∙ ap (λ (l : List ℕ). put l (at + m + 48) (flat ns)) c.put_head.ensures.0)
    ∙ put_update ed m c.mark_size-mark.ensures log at a.id ws c.put_head.ensures.1 ns a.elided a.bucket a.held c.put_nodes.ensures.1 c.put_tail.ensures.1 (fits past)) in
    (left.0, left.1, wide (goal.at.returns c).Start, λ ok. c.put_nodes.ensures.2)
