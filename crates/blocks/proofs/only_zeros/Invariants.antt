-- The flag says whether the bytes passed are all zero. Assumes nothing.
use Rattle.std.proofs.Common.{◌≡◌, ◌&&◌, drop}
use Rattle.blocks.specs.Blocks.{all_zero}
use Rattle.blocks.proofs.only_zeros.Given as goal

abbrev pub invariant-loop-b : goal.invariant-loop-b
invariant-loop-b l = all_zero l.s ≡ (l.zero && all_zero (drop l.b-index l.s))
