-- At the head of the loop the nodes of the slots that are done are in the page. Assumes nothing.
use Rattle.std.proofs.Common.{◌≡◌, ◌<◌, ℕ, length, get_or}
use Rattle.page_diff.specs.Diff.{count_of}
use Rattle.page_diff.proofs.PackLaws.{put_up_to}
use Rattle.page_diff.proofs.Walk.{Walk}
use Rattle.wal.specs.Reader.{nodes_from}
use Rattle.recover.proofs.write_slots.Given as goal

abbrev pub invariant-loop-c : goal.invariant-loop-c
invariant-loop-c l = record {
  walk : Walk l.fn.d.words l.c-iterator.iter.left.words l.c-iterator.count;
  long : length l.page ≡ 4096;
  bytes : (j : ℕ) → j < 4096 → get_or l.page j 0 ≡ put_up_to l.fn.d.words (nodes_from l.log l.from (count_of l.fn.d.words)) l.fn.page l.c-iterator.count j;
}
