-- 01, 'Reader': what there is at a position, without a record's id, diff, nodes and elided children. Assumes nothing.
use Rattle.std.specs.Prelude.{ℕ, Result, Ok, Err}
use Rattle.answers.specs.Refusals.{number_of}
use Rattle.answers.specs.declared.Refusal.{Refusal}
use Rattle.page_diff.specs.Diff.{count_of}
use Rattle.wal.specs.Log.{clear, update}
use Rattle.wal.specs.Reader.{Next, next, ended, stopped}
use Rattle.wal_read.specs.declared.Head.{Head}
use Rattle.wal_read.specs.declared.Head.TheVariants as head

-- a clear of a bucket, or an update of a bucket with a count of nodes, and the position after it; the end; or the number of a refusal
pub data Seen : Type 0 where
  a_clear : ℕ → ℕ → Seen
  an_update : ℕ → ℕ → ℕ → Seen
  the_end : Seen
  a_refusal : ℕ → Seen

abbrev pub head_of : Next → Seen
head_of (next (clear b) p) = a_clear b p
head_of (next (update id ws ns elided b) p) = an_update b (count_of ws) p
head_of ended = the_end
head_of (stopped n) = a_refusal n

abbrev pub head_said : Result Head Refusal → Seen
head_said (Ok (head.Clear b p)) = a_clear b p
head_said (Ok (head.Update b c p)) = an_update b c p
head_said (Ok head.End) = the_end
head_said (Err r) = a_refusal (number_of r)
