-- At the head of the loop the new image is that of the buckets so far. Assumes nothing.
use Rattle.std.proofs.Common.{◌≡◌, length}
use Rattle.answers.specs.Answers.{given}
use Rattle.ht_file.specs.Places.{image_length}
use Rattle.probe.specs.Path.{hit_limit}
use Rattle.rehash.specs.Growth.{grown_to}
use Rattle.rehash.proofs.rehash_to.Given as goal

abbrev pub invariant-loop-b : goal.invariant-loop-b
invariant-loop-b l =
    (grown_to hit_limit l.old_image l.old_n l.new_n l.hashes l.b ≡ given l.new_image) × (length l.new_image ≡ image_length l.new_n)
