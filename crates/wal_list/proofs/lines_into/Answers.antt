-- Each line is put where those before it end, and the lines of any log leave room for one more. Assumes nothing.
use Rattle.std.proofs.Common.{◌≡◌, sym, ap, ◌∙◌, arith, List, ℕ, ◌+◌, ◌-◌, ◌≤◌, length, Ok}
use borrow.Author.Tests.{le-leb}
use borrow.Rule.Slice.PartMut.{put_mid, mid_of}
use Rattle.answers.specs.Answers.{given}
use Rattle.blocks.specs.Blocks.{put}
use Rattle.blocks.proofs.Laws.{put-length}
use Rattle.wal_list.specs.Lines.{lines_of}
use Rattle.wal_list.specs.Shown.{Shown, shown_at, said_of, text_of, lines_size, line_said, line_answer, line_after}
use Rattle.wal_list.proofs.Writing.{Written}
use Rattle.wal_list.proofs.AllLines.{Leads}
use Rattle.wal_list.proofs.Fits.{lines_fit}
use Rattle.wal_list.proofs.Filling.{lines-put, Filled, filled_start, done_few, done_short, part_room, filled_end, filled_turn}
use Rattle.wal_list.proofs.lines_into.Goals.{At-loop-len, In_ok-len, In_err-len, In-More, In-Last}
use Rattle.wal_list.proofs.lines_into.Goals as goal

-- memory with room for a line takes it
with_room : (part : List ℕ) (s : Shown) → 80 ≤ length part → (line_answer part s ≡ given (said_of s)) × (line_after part s ≡ put part 0 (text_of s))
with_room part s h = (simp (le-leb 80 (length part) h), simp (le-leb 80 (length part) h))

pub loop-len-init : goal.loop-len-init
loop-len-init c = filled_start c.args.log.now c.args.out.now

-- at the head of a turn there is room for a line
short : (c : At-loop-len) → c.loop-len.done + 80 ≤ length c.loop-len.out
short c = done_short _ _ _ _ _ c.if-out-lt-LINES_SIZE.false c.loop-len.invariant

taken : (log out₀ out : List ℕ) (done at : ℕ) → lines_size ≤ length out₀ → Filled log out₀ out done at → let part = mid_of done (length out - done) out in let t = shown_at log at in
    (line_answer part t ≡ given (said_of t)) × (line_after part t ≡ put part 0 (text_of t))
taken log out₀ out done at room f = with_room _ _ (part_room log out₀ out done at room f)

pub slice_bounds-line_at-count : goal.slice_bounds-line_at-count
slice_bounds-line_at-count c = omega (arith, short c)

pub slice_bounds-line_at-start : goal.slice_bounds-line_at-start
slice_bounds-line_at-start c = omega (arith, short c)

-- so no line is refused
pub returns-in_err-len-clause-lines : goal.returns-in_err-len-clause-lines
returns-in_err-len-clause-lines c = let e = c.in_err-len.ensures.0 ∙ (taken c.args.log.now c.args.out.now c.loop-len.out c.loop-len.done c.loop-len.at c.if-out-lt-LINES_SIZE.false c.loop-len.invariant).0 in absurd cc

-- the memory with a line before the last one
more : (c : In-More) → let at = c.loop-len.at in let done = c.loop-len.done in let out = c.loop-len.out in let log = c.args.log.now in
    Filled log c.args.out.now (put_mid done (length out - done) out c.line_at.new.line) (done + c.in-More.len) c.in-More.next × Leads log at c.in-More.next
more c =
    filled_turn c.args.log.now c.args.out.now c.loop-len.out c.loop-len.done c.loop-len.at c.if-out-lt-LINES_SIZE.false c.loop-len.invariant c.line_at.new.line (c.line_at.ensures.1 ∙ (taken c.args.log.now c.args.out.now c.loop-len.out c.loop-len.done c.loop-len.at c.if-out-lt-LINES_SIZE.false c.loop-len.invariant).1) c.in-More.len c.in-More.next
    (sym (ap (λ l. line_said (Ok l)) c.in-More.is) ∙ c.in_ok-len.ensures.0 ∙ (taken c.args.log.now c.args.out.now c.loop-len.out c.loop-len.done c.loop-len.at c.if-out-lt-LINES_SIZE.false c.loop-len.invariant).0)

pub overflow_add-done : goal.overflow_add-done
overflow_add-done c = omega (arith, done_few _ _ _ _ _ c.if-out-lt-LINES_SIZE.false (more c).0)

pub loop-len-smaller : goal.loop-len-smaller
loop-len-smaller c = omega (arith, (more c).1)

pub loop-len-preserved : goal.loop-len-preserved
loop-len-preserved c = (more c).0

-- the memory with the last line
all : (c : In-Last) → let done = c.loop-len.done in let out = c.loop-len.out in
    Written c.args.out.now (lines_of c.args.log.now) (put_mid done (length out - done) out c.line_at.new.line) (done + c.in-Last.len)
all c =
    filled_end c.args.log.now c.args.out.now c.loop-len.out c.loop-len.done c.loop-len.at c.if-out-lt-LINES_SIZE.false c.loop-len.invariant c.line_at.new.line (c.line_at.ensures.1 ∙ (taken c.args.log.now c.args.out.now c.loop-len.out c.loop-len.done c.loop-len.at c.if-out-lt-LINES_SIZE.false c.loop-len.invariant).1) c.in-Last.len
    (sym (ap (λ l. line_said (Ok l)) c.in-Last.is) ∙ c.in_ok-len.ensures.0 ∙ (taken c.args.log.now c.args.out.now c.loop-len.out c.loop-len.done c.loop-len.at c.if-out-lt-LINES_SIZE.false c.loop-len.invariant).0)

pub overflow_add-result : goal.overflow_add-result
overflow_add-result c = omega (arith, (all c).1, lines_fit c.args.log.now)

pub returns-in-Last-clause-lines : goal.returns-in-Last-clause-lines
returns-in-Last-clause-lines c = lines-put c.args.log.now c.args.out.now _ _ c.if-out-lt-LINES_SIZE.false (all c)

pub returns-in-Last-clause-within : goal.returns-in-Last-clause-within
returns-in-Last-clause-within c =
    let out = c.args.out.now in
    omega (arith, (all c).1, lines_fit c.args.log.now, ap length (all c).0, put-length out 0 (lines_of c.args.log.now))
