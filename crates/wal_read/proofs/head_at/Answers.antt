-- Where the end stands, its mark is inside the log. Assumes nothing.
use Rattle.std.proofs.Common.{arith, ◌≡◌, Ok, sym, ap, ◌∙◌}
use Rattle.wal.specs.Reader.{ended, next_at}
use Rattle.wal_read.specs.Head.{the_end, head_of, head_said}
use Rattle.wal_read.specs.declared.Head.{Head}
use Rattle.wal_read.proofs.ReadLaws.{head_end, end_within}
use Rattle.wal_read.proofs.head_at.Goals as goal

pub overflow_add-at : goal.overflow_add-at
overflow_add-at c =
    let a = c.args in
    let end : the_end ≡ head_of (next_at a.edition a.log.now a.at) = sym (ap (λ (h : Head). head_said (Ok h)) c.in-End.is) ∙ c.in_ok-head.ensures in
    let here : next_at a.edition a.log.now a.at ≡ ended = head_end (next_at a.edition a.log.now a.at) end in
    omega (arith, end_within a.edition a.log.now a.at here)
