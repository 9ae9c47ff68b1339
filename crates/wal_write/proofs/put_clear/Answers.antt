-- The mark and the bucket's bytes are the record. Assumes nothing.
use Rattle.std.proofs.Common.{arith, ◌+◌, List, ℕ, ap, ◌∙◌}
use Rattle.blocks.specs.Blocks.{bytes_of, put}
use Rattle.wal_write.proofs.Bytes.{put_clear}
use Rattle.wal_write.proofs.put_clear.Goals as goal

pub returns : goal.returns
returns c =
    let a = c.args in
    let m = c.mark_size.result in
    c.write_u64.ensures ∙ ap (λ (l : List ℕ). put l (a.at + m) (bytes_of 8 a.bucket)) c.put_mark.ensures
    ∙ put_clear a.edition m c.mark_size.ensures a.log.now a.at a.bucket (omega (arith, c.requires, c.mark_size.ensures))
