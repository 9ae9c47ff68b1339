-- 01, 'Replay', "Stops are put as values": the step called entry by entry, and what stops inside its calls leave.
-- Assumes nothing.
use Rattle.std.specs.Prelude.{List, ℕ, zero, suc, ◌+◌, get_or}
use Rattle.answers.specs.Answers.{Answer, given, refused}
use Rattle.wal.specs.Log.{start_size}
use Rattle.wal.specs.Reader.{edition_at}
use Rattle.wal.specs.declared.AfterEnd.{AfterEnd}
use Rattle.recover.specs.Replay.{Went, cleared, updated, at_end, step_answer, step_image, Mix}

-- where the calls stand: the image, the position last answered, and how many updates have had their hash
pub record Stand : Type 0 where
  pub image : List ℕ
  pub at : ℕ
  pub used : ℕ

-- by a call's answer and the image that it left
abbrev pub moved_by : Answer Went → List ℕ → Stand → Stand
moved_by (given (cleared p)) image w = record { image = image; at = p; used = w.used }
moved_by (given (updated p)) image w = record { image = image; at = p; used = w.used + 1 }
moved_by (given at_end) image w = record { image = image; at = w.at; used = w.used }
moved_by (refused k) image w = record { image = image; at = w.at; used = w.used }

-- one call of `apply_entry`, by its promise, with the hash of its update (a clear looks at none)
abbrev pub called : AfterEnd → ℕ → List ℕ → List ℕ → Stand → Stand
called rule n log hashes w =
    moved_by (step_answer rule n w.image (edition_at log) log w.at) (step_image rule n w.image (edition_at log) log w.at (get_or hashes w.used 0)) w

-- so many calls on an image, from the first entry on
unfoldable pub calls : AfterEnd → ℕ → List ℕ → List ℕ → List ℕ → ℕ → Stand
calls rule n log hashes image zero = record { image = image; at = start_size (edition_at log); used = 0 }
calls rule n log hashes image (suc k) = called rule n log hashes (calls rule n log hashes image k)

-- "stops at any byte, any number of times": the table; and, k calls after a start on such an image, what a stop inside
-- the next leaves: each byte is that before the call or that after it
pub data Cut (rule : AfterEnd) (n : ℕ) (log hashes table : List ℕ) : List ℕ → Type 0 where
  uncut : Cut rule n log hashes table table
  cut_inside : (start image : List ℕ) (k : ℕ) → Cut rule n log hashes table start
      → Mix (calls rule n log hashes start k).image (calls rule n log hashes start (suc k)).image image → Cut rule n log hashes table image
