-- The three parts written are the marker. Assumes nothing.
use Rattle.std.proofs.Common.{◌≡◌, rules, ℕ, ◌∙◌}
use Rattle.std.specs.Int.{w32, to_le_bytes}
use borrow.Author.Tests.{lt-leb}
use Rattle.blocks.specs.Blocks.{bytes_of}
use Rattle.rehash.proofs.write_marker.Goals as goal

-- the four bytes of a count
four : (x : ℕ) → to_le_bytes w32 x ≡ bytes_of 4 x
four x = search rules

pub returns-clause-value : goal.returns-clause-value
returns-clause-value c =
    rw (c.copy_from_slice.ensures.after, c.copy_from_slice-2.ensures.after, c.copy_from_slice-3.ensures.after, c.to_le_bytes.ensures ∙ four c.args.old, c.to_le_bytes-2.ensures ∙ four c.args.new, lt-leb c.args.new c.args.old c.if-new-old.false)
