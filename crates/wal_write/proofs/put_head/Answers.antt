-- The mark, the id and the diff's bytes are put one after the other. Assumes nothing.
use Rattle.std.proofs.Common.{arith, ◌+◌, List, ℕ, ap, ap₂, ◌∙◌}
use Rattle.blocks.specs.Blocks.{put}
use Rattle.wal_write.proofs.Bytes.{put_head}
use Rattle.wal_write.proofs.put_head.Goals as goal

pub returns : goal.returns
returns c =
    let a = c.args in
    let m = c.mark_size.result in (
      c.put_block-2.ensures.0
          ∙ ap₂ (λ (l bs : List ℕ). put l (a.at + m + 32) bs) (c.put_block.ensures.0 ∙ ap (λ (l : List ℕ). put l (a.at + m) a.id) c.put_mark.ensures) c.as_bytes.ensures
          ∙ put_head a.edition m c.mark_size.ensures a.log.now a.at a.id a.d.words c.put_block.ensures.1 (omega (arith, c.requires, c.mark_size.ensures)),
      c.put_block.ensures.1,
    )
