-- The counter, with the full ones among the tags that are left, is the whole count. Assumes nothing.
use Rattle.std.proofs.Common.{◌≡◌, ◌+◌, length}
use Rattle.std.specs.Slice.Iter.{chunks_rest}
use Rattle.meta_map.specs.Tags.{full, count_of}
use Rattle.meta_map.proofs.full_count.Given as goal

abbrev pub invariant-loop-part : goal.invariant-loop-part
invariant-loop-part l =
    count_of full l.tags l.n ≡ l.count + count_of full (chunks_rest l.part-iterator) (length (chunks_rest l.part-iterator))
