-- The elided children and the bucket's bytes are put one after the other. Assumes nothing.
use Rattle.std.proofs.Common.{arith, ◌≡◌, ◌+◌, List, ℕ, length, refl, ap, ◌∙◌}
use Rattle.blocks.specs.Blocks.{bytes_of, put}
use Rattle.blocks.proofs.Parts.{put_then}
use Rattle.wal_write.proofs.put_tail.Goals as goal

pub returns : goal.returns
returns c =
    let a = c.args in
    let bs : List ℕ = bytes_of 8 a.bucket in
    let long : length bs ≡ 8 = refl in
    let wide : length a.elided ≡ 8 = c.put_block.ensures.1 in (
      c.write_u64.ensures ∙ ap (λ (l : List ℕ). put l (a.at + 8) bs) c.put_block.ensures.0 ∙ put_then a.log.now a.at (a.at + 8) a.elided bs (omega arith) (omega (arith, c.requires)),
      wide,
    )
