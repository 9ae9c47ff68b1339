-- A call takes the first of the slots that are left, and leaves the others; at the end none is left. Assumes nothing.
use Rattle.std.proofs.Common.{arith, length, ap}
use Rattle.page_diff.proofs.Walk.{slots_first, no_slots}
use Rattle.page_diff.proofs.SlotsIterator.next.Goals as goal

pub returns-in_err-slot-clause-steps : goal.returns-in_err-slot-clause-steps
returns-in_err-slot-clause-steps c =
    let e = no_slots c.args.self.now.left.words c.in_err-slot.ensures in
    rw c.from_residual.ensures (e, e)

pub returns-clause-steps : goal.returns-clause-steps
returns-clause-steps c = slots_first c.args.self.now.left.words c.in_ok-slot.rest.words c.in_ok-slot.slot c.in_ok-slot.ensures.0 c.in_ok-slot.ensures.1.0 c.in_ok-slot.ensures.1.1

pub returns-clause-goes : goal.returns-clause-goes
returns-clause-goes c =
    let e = slots_first c.args.self.now.left.words c.in_ok-slot.rest.words c.in_ok-slot.slot c.in_ok-slot.ensures.0 c.in_ok-slot.ensures.1.0 c.in_ok-slot.ensures.1.1 in
    record { on = λ h. (tt, tt, omega (arith, ap length e)); keeps = tt; rests = λ h. tt }
