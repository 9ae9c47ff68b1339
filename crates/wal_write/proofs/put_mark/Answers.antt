-- By the edition: the tag alone, or 0xB2 and the tag. Assumes nothing.
use Rattle.std.proofs.Common.{arith, sym, ap, ◌∙◌}
use Rattle.blocks.specs.Blocks.{put}
use Rattle.blocks.proofs.Parts.{set-put}
use Rattle.wal.specs.Log.{mark, mark_size}
use Rattle.wal.specs.declared.Edition.{Edition}
use Rattle.wal_write.proofs.Bytes.{set_two}
use Rattle.wal_write.proofs.put_mark.Goals as goal

pub returns-in-Two : goal.returns-in-Two
returns-in-Two c =
    let a = c.args in
    set_two a.log.now a.at 0xB2 a.tag (omega (arith, c.requires, ap mark_size c.in-Two.is)) ∙ ap (λ (e : Edition). put a.log.now a.at (mark e a.tag)) (sym c.in-Two.is)

pub returns-in_default : goal.returns-in_default
returns-in_default c =
    let a = c.args in
    set-put a.log.now a.at a.tag (omega (arith, c.requires, ap mark_size c.in_default.is)) ∙ ap (λ (e : Edition). put a.log.now a.at (mark e a.tag)) (sym c.in_default.is)
