-- An answer in words, as docs/VECTORS.md has them: a refusal's number comes first, 0 for none. Assumes nothing.
use Rattle.std.specs.Prelude.{ℕ, ◌+◌, ◌%◌, ◌^◌, Bool, true, false}
use Rattle.answers.specs.Answers.{Answer, given, refused}
use Rattle.vector_memory.specs.declared.Words.{Words}
use Rattle.vector_memory.specs.declared.Count.{Count}

abbrev pub six : ℕ → ℕ → ℕ → ℕ → ℕ → ℕ → Words
six a b c d e f = record { a = a; b = b; c = c; d = d; e = e; f = f }

abbrev pub refusal_word : {A : Type 0} → Answer A → ℕ
refusal_word (given x) = 0
refusal_word (refused m) = m

abbrev pub number_words : Answer ℕ → Words
number_words (given x) = six 0 x 0 0 0 0
number_words (refused m) = six m 0 0 0 0 0

abbrev pub truth_words : Answer Bool → Words
truth_words (given true) = six 0 1 0 0 0 0
truth_words (given false) = six 0 0 0 0 0 0
truth_words (refused m) = six m 0 0 0 0 0

-- how many answers were looked at, and how many differ, in u64
abbrev pub counts : ℕ → ℕ → Count
counts n m = record { answers = n; differ = m }

abbrev pub counted_by : Count → Bool → Count
counted_by c true = counts ((c.answers + 1) % 2 ^ 64) c.differ
counted_by c false = counts ((c.answers + 1) % 2 ^ 64) ((c.differ + 1) % 2 ^ 64)
