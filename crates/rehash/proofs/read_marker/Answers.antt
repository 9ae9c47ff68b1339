-- By the tests in their order. Assumes nothing.
use Rattle.std.proofs.Common.{◌≡◌, sym, ap₂, ◌∙◌, List, ℕ, true, false, length, take}
use borrow.Author.Tests.{le-leb, lt-leb}
use Rattle.blocks.specs.Blocks.{le, block, same_bytes}
use Rattle.probe.proofs.Tests.{same_test}
use Rattle.rehash.specs.Marker.{magic, counts_of, read_answer}
use Rattle.rehash.proofs.Markers.{read_short, read_other, read_counts}
use Rattle.rehash.proofs.read_marker.Goals as goal

pub returns-then-bytes-ne-MARKER_LEN : goal.returns-then-bytes-ne-MARKER_LEN
returns-then-bytes-ne-MARKER_LEN c = sym (read_short c.args.bytes.now c.if-bytes-ne-MARKER_LEN.true)

pub returns-then-not-starts_with : goal.returns-then-not-starts_with
returns-then-not-starts_with c =
    let bs = c.args.bytes.now in
    sym (read_other bs c.if-bytes-ne-MARKER_LEN.false (same_test (take 8 bs) magic false c.if-not-starts_with.ensures.value))

-- it is a marker: what its counts are
counted : (bs : List ℕ) → length bs ≡ 16 → same_bytes (take 8 bs) magic ≡ true → (o n : ℕ) → o ≡ le (block 4 bs 8) → n ≡ le (block 4 bs 12) → read_answer bs ≡ counts_of o n
counted bs long begins o n eo en = read_counts bs long begins ∙ ap₂ counts_of (sym eo) (sym en)

pub returns-then-new-old : goal.returns-then-new-old
returns-then-new-old c =
    let bs = c.args.bytes.now in
    sym (counted bs c.if-bytes-ne-MARKER_LEN.false (same_test (take 8 bs) magic true c.if-not-starts_with.ensures.value) c.read_u32-old.result c.read_u32-new.result c.read_u32-old.ensures c.read_u32-new.ensures
    ∙ simp (le-leb _ _ c.if-new-old.true))

pub returns : goal.returns
returns c =
    let bs = c.args.bytes.now in
    sym (counted bs c.if-bytes-ne-MARKER_LEN.false (same_test (take 8 bs) magic true c.if-not-starts_with.ensures.value) c.read_u32-old.result c.read_u32-new.result c.read_u32-old.ensures c.read_u32-new.ensures
    ∙ simp (lt-leb _ _ c.if-new-old.false))
