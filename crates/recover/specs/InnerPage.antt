-- The page of an update, by where its body stands in a log. Assumes nothing.
use Rattle.std.specs.Prelude.{List, ℕ, ◌+◌, ◌*◌}
use Rattle.blocks.specs.Blocks.{block}
use Rattle.wal.specs.Reader.{diff_at, nodes_from}
use Rattle.recover.specs.Places.{page_after}

abbrev pub page_by : List ℕ → ℕ → ℕ → List ℕ → List ℕ
page_by log p c page = page_after (block 32 log p) (diff_at log p) (nodes_from log (p + 48) c) (block 8 log (p + 48 + 32 * c)) page
