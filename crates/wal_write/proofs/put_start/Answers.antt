-- The mark and the number, and then the seed or nothing, are the start record. Assumes nothing.
use Rattle.std.proofs.Common.{rules, arith, ◌≡◌, ◌+◌, List, ℕ, length, sym, ap, ap₂, ◌∙◌}
use mir.Syntax.{w32}
use mir.Val.{Fits}
use Rattle.blocks.specs.Blocks.{bytes_of, put}
use Rattle.blocks.proofs.Parts.{put_nothing}
use Rattle.wal.specs.Log.{mark_size, seed_part, start_record}
use Rattle.wal.specs.Run.{WideStart}
use Rattle.wal.specs.declared.Edition.{Edition}
use Rattle.wal.proofs.Records.{mark_small}
use Rattle.wal_write.proofs.Bytes.{put_start_lem}
use Rattle.wal_write.proofs.put_start.Goals as goal
use Rattle.wal_write.proofs.put_start.Goals.{After-write_u32}

-- the widths that the types give
wide : (c : After-write_u32) → WideStart c.args.start
wide c =
    let number : Fits w32 c.args.start.sync = search rules in
    record { number = number.fits; seed_long = search rules }

-- the mark and the number are put, and the seed after them is all
whole : (c : After-write_u32) → put c.write_u32.new.s (c.mark_size.result + 4) (seed_part c.args.start.edition c.args.start.seed) ≡ put c.args.log.now 0 (start_record c.args.start)
whole c =
    let s = c.args.start in
    let m = c.mark_size.result in
    ap (λ (l : List ℕ). put l (m + 4) (seed_part s.edition s.seed)) (c.write_u32.ensures ∙ ap (λ (l : List ℕ). put l m (bytes_of 4 s.sync)) c.put_mark.ensures)
    ∙ put_start_lem s m c.mark_size.ensures (wide c) c.args.log.now c.requires

pub returns-in-Two : goal.returns-in-Two
returns-in-Two c =
    let k = (goal.at.returns-in-Two c).After-write_u32 in
    let at : 6 ≡ c.mark_size.result + 4 = omega (arith, c.mark_size.ensures, ap mark_size c.in-Two.is) in (
      c.put_block.ensures.0
          ∙ ap₂ (λ (n : ℕ) (e : List ℕ). put c.write_u32.new.s n e) at (sym (ap (λ (e : Edition). seed_part e c.args.start.seed) c.in-Two.is))
          ∙ whole k,
      wide k,
    )

pub returns-in_default : goal.returns-in_default
returns-in_default c =
    let k = (goal.at.returns-in_default c).After-write_u32 in
    let out = c.write_u32.new.s in
    let m = c.mark_size.result in
    let long : length out ≡ length c.args.log.now = search rules in (
      put_nothing out (m + 4) (omega (arith, c.requires, c.mark_size.ensures, mark_small c.args.start.edition))
          ∙ sym (ap (λ (e : Edition). put out (m + 4) (seed_part e c.args.start.seed)) c.in_default.is)
          ∙ whole k,
      wide k,
    )
