-- The bytes passed are all zero. Assumes nothing.
use Rattle.std.proofs.Common.{◌≡◌, drop}
use Rattle.std.specs.Slice.Iter.{chunks_rest}
use Rattle.blocks.specs.Blocks.{all_zero}
use Rattle.blocks.proofs.zeros_from.Given as goal

abbrev pub invariant-loop-part : goal.invariant-loop-part
invariant-loop-part l = all_zero (drop l.from l.s) ≡ all_zero (chunks_rest l.part-iterator)
