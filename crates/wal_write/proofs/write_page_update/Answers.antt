-- Each test answers as the definition does; with all passed the record is put part by part. Assumes nothing.
use Rattle.std.proofs.Common.{rules, arith, ◌≡◌, ℕ, ◌+◌, ◌-◌, ◌*◌, ◌≤◌, List, ◌++◌, map, leb, eqb, length, get_or, true, false, refl, sym, ap, ap₂, ◌∙◌}
use Rattle.std.specs.Prelude.{Err}
use mir.Syntax.{w64}
use mir.Val.{Fits}
use borrow.Author.Tests.{leb-true, eq-eqb, ne_eqb}
use Rattle.answers.specs.Answers.{given, refused}
use Rattle.answers.specs.Refusals.{number_of}
use Rattle.answers.specs.declared.Refusal.{Refusal}
use Rattle.answers.specs.declared.Refusal.TheVariants.{LengthUnfit, DiffReserved, WriterNotOpen, NoRoom}
use Rattle.blocks.specs.Blocks.{bytes_of, block, put, flat}
use Rattle.blocks.proofs.Laws.{block-length}
use Rattle.page_diff.specs.Diff.{slots, count_of, reserved}
use Rattle.page_diff.specs.Pack.{node_at}
use Rattle.page_diff.proofs.Nodes.{page_nodes-length, nodes_plain}
use Rattle.page_diff.proofs.Walk.{plain_count}
use Rattle.wal.specs.Log.{mark_size, record_of, update_size}
use Rattle.wal.specs.Writer.{open_at, capacity}
use Rattle.wal.specs.Run.{Wide}
use Rattle.wal.specs.declared.Edition.{Edition}
use Rattle.wal.proofs.Records.{mark_small}
use Rattle.wal_write.specs.Calls.{page_update_answer, page_update, UpdatesPage}
use Rattle.wal_write.proofs.Bytes.{put_update}
use Rattle.wal_write.proofs.CallLaws.{page_tests, not_open, unfit, reserved_bit, no_room, taken, record_refused, record_given}
use Rattle.wal_write.proofs.write_page_update.Goals as goal
use Rattle.wal_write.proofs.write_page_update.Goals.{Start, Else-is_reserved, After-count, After-room_at, Else-not-room_at}

-- the record's bytes by the edition
abbrev bytes : Start → Edition → List ℕ
bytes c ed = record_of ed (page_update c.args.id c.args.d.words c.args.page.now c.args.bucket)

-- the widths that the types give
wide : (c : Start) → Wide c.args.id c.args.d.words (block 8 c.args.page.now 4056) c.args.bucket
wide c =
    let low : Fits w64 (get_or c.args.d.words 0 0) = search rules in
    let high : Fits w64 (get_or c.args.d.words 1 0) = search rules in
    record {
      change = record { id_long = search rules; two_words = search rules; low_word = low.fits; high_word = high.fits };
      elided_long = block-length 8 c.args.page.now 4056;
      bucket = c.ranges.bucket.fits;
    }

-- a refused call
refused-call : (c : Start) (r : Refusal) → page_update_answer c.args.log.now c.args.w.now c.args.d.words c.args.page.now ≡ refused (number_of r)
    → UpdatesPage c.args.log.now c.args.w.now c.args.id c.args.d.words c.args.page.now c.args.bucket (Err r) c.args.w.now c.args.log.now
refused-call c r e =
    let left = record_refused (page_update_answer c.args.log.now c.args.w.now c.args.d.words c.args.page.now) c.args.log.now c.args.w.now (λ ed. update_size ed (count_of c.args.d.words)) (bytes c) (number_of r) (refused (number_of r)) c.args.w.now e refl refl in
    (left.0, left.1, wide c)

-- a whole page, and marks of nodes alone
fit : (c : Else-is_reserved) → eqb (length c.args.page.now) 4096 ≡ true
fit c = eq-eqb (length c.args.page.now) 4096 c.if-page-ne-PAGE_SIZE.false

plain : (c : Else-is_reserved) → reserved c.args.d.words ≡ false
plain c = sym c.is_reserved.ensures ∙ c.if-is_reserved.false

few : (c : After-count) → c.count.result ≤ 126
few c = omega (arith, c.count.ensures, plain_count c.args.d.words (plain (goal.at.After-count c).Else-is_reserved))

-- the test of room, of the mark's size and the count that the definition has
room : (c : After-room_at) → c.room_at.result ≡ leb (c.in-Open.at + update_size c.in-Open.edition (count_of c.args.d.words) + mark_size c.in-Open.edition) (capacity c.args.log.now)
room c = c.room_at.ensures ∙ ap₂ (λ (m n : ℕ). leb (c.in-Open.at + (m + (64 + 32 * n)) + m) (capacity c.args.log.now)) c.mark_size-mark.ensures c.count.ensures

roomy : (c : Else-not-room_at) → leb (c.in-Open.at + update_size c.in-Open.edition (count_of c.args.d.words) + mark_size c.in-Open.edition) (capacity c.args.log.now) ≡ true
roomy c = sym (room (goal.at.Else-not-room_at c).After-room_at) ∙ c.if-not-room_at.false

fits : (c : Else-not-room_at) → c.in-Open.at + (c.mark_size-mark.result + (64 + 32 * count_of c.args.d.words)) ≤ length c.args.log.now
fits c = omega (arith, leb-true (c.in-Open.at + update_size c.in-Open.edition (count_of c.args.d.words) + mark_size c.in-Open.edition) (capacity c.args.log.now) (roomy c), c.mark_size-mark.ensures)

pub returns-in_default : goal.returns-in_default
returns-in_default c =
    let a = c.args in
    refused-call (goal.at.returns-in_default c).Start WriterNotOpen
    (page_tests a.log.now a.w.now a.d.words a.page.now
    ∙ not_open a.log.now a.w.now (eqb (length a.page.now) 4096) (reserved a.d.words) (λ ed. update_size ed (count_of a.d.words)) (given tt) c.in_default.not-Open)

pub returns-then-page-ne-PAGE_SIZE : goal.returns-then-page-ne-PAGE_SIZE
returns-then-page-ne-PAGE_SIZE c =
    let a = c.args in
    refused-call (goal.at.returns-then-page-ne-PAGE_SIZE c).Start LengthUnfit
    (page_tests a.log.now a.w.now a.d.words a.page.now
    ∙ unfit a.log.now a.w.now (eqb (length a.page.now) 4096) (reserved a.d.words) (λ ed. update_size ed (count_of a.d.words)) (given tt) c.in-Open.edition c.in-Open.at c.in-Open.is
    (ne_eqb (length a.page.now) 4096 c.if-page-ne-PAGE_SIZE.true))

pub returns-then-is_reserved : goal.returns-then-is_reserved
returns-then-is_reserved c =
    let a = c.args in
    refused-call (goal.at.returns-then-is_reserved c).Start DiffReserved
    (page_tests a.log.now a.w.now a.d.words a.page.now
    ∙ reserved_bit a.log.now a.w.now (eqb (length a.page.now) 4096) (reserved a.d.words) (λ ed. update_size ed (count_of a.d.words)) (given tt) c.in-Open.edition c.in-Open.at c.in-Open.is
    (eq-eqb (length a.page.now) 4096 c.if-page-ne-PAGE_SIZE.false) (sym c.is_reserved.ensures ∙ c.if-is_reserved.true))

pub overflow_mul-size : goal.overflow_mul-size
overflow_mul-size c = omega (arith, few (goal.at.overflow_mul-size c).After-count)

pub overflow_add-size : goal.overflow_add-size
overflow_add-size c = omega (arith, few (goal.at.overflow_add-size c).After-count)

pub overflow_add-size-2 : goal.overflow_add-size-2
overflow_add-size-2 c = omega (arith, few (goal.at.overflow_add-size-2 c).After-count, c.mark_size-mark.ensures, mark_small c.in-Open.edition)

pub returns-then-not-room_at : goal.returns-then-not-room_at
returns-then-not-room_at c =
    let a = c.args in
    let k = (goal.at.returns-then-not-room_at c).Else-is_reserved in
    refused-call (goal.at.returns-then-not-room_at c).Start NoRoom
    (page_tests a.log.now a.w.now a.d.words a.page.now
    ∙ no_room a.log.now a.w.now (eqb (length a.page.now) 4096) (reserved a.d.words) (λ ed. update_size ed (count_of a.d.words)) (given tt) c.in-Open.edition c.in-Open.at c.in-Open.is
    (fit k) (plain k) (sym (room (goal.at.returns-then-not-room_at c).After-room_at) ∙ c.if-not-room_at.true))

pub returns : goal.returns
returns c =
    let a = c.args in
    let log = a.log.now in
    let w = a.w.now in
    let ws = a.d.words in
    let page = a.page.now in
    let ed = c.in-Open.edition in
    let at = c.in-Open.at in
    let m = c.mark_size-mark.result in
    let k = (goal.at.returns c).Else-is_reserved in
    let past = (goal.at.returns c).Else-not-room_at in
    let n : ℕ = count_of ws in
    let ns : List (List ℕ) = map (node_at page) (slots ws) in
    let el : List ℕ = block 8 page 4056 in
    let left = record_given (page_update_answer log w ws page) log w (λ (e : Edition). update_size e n) (bytes (goal.at.returns c).Start) ed at (open_at ed (at + (m + (64 + 32 * c.count.result)))) c.put_tail.new.log c.in-Open.is
    (page_tests log w ws page ∙ taken log w (eqb (length page) 4096) (reserved ws) (λ (e : Edition). update_size e n) (given tt) ed at c.in-Open.is (fit k) (plain k) (roomy past))
    (ap₂ (λ (x y : ℕ). open_at ed (at + (x + (64 + 32 * y)))) c.mark_size-mark.ensures c.count.ensures)
    (c.put_tail.ensures.0
    ∙ ap (λ (y : ℕ). put c.put_page_nodes.new.s (at + (m + (64 + 32 * y) - 16)) (c.block.result ++ bytes_of 8 a.bucket)) c.count.ensures
    ∙ ap (λ (e : List ℕ). put c.put_page_nodes.new.s (at + (m + (64 + 32 * n) - 16)) (e ++ bytes_of 8 a.bucket)) c.block.ensures
    ∙ ap (λ (l : List ℕ). put l (at + (m + (64 + 32 * n) - 16)) (el ++ bytes_of 8 a.bucket)) (c.put_page_nodes.ensures ∙ nodes_plain c.put_head.new.log (at + m + 48) ws page (plain k) ∙ ap (λ (l : List ℕ). put l (at + m + 48) (flat ns)) c.put_head.ensures.0)
    ∙ put_update ed m c.mark_size-mark.ensures log at a.id ws c.put_head.ensures.1 ns el a.bucket n (page_nodes-length page (slots ws)) (block-length 8 page 4056) (fits past)) in
    (left.0, left.1, wide (goal.at.returns c).Start)
