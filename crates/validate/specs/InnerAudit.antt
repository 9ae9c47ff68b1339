-- The half of the audit that is no search for labels: the tags and paths of the buckets, rising. Assumes nothing.
use Rattle.std.specs.Prelude.{List, ℕ, zero, suc, get_or}
use Rattle.answers.specs.Answers.{Answer, given, and_then}
use Rattle.validate.specs.Audit.{reaching, path_audit}

unfoldable pub paths_to : List ℕ → ℕ → List ℕ → ℕ → Answer (Unit {0})
unfolding reaching
paths_to img n hashes zero = given tt
paths_to img n hashes (suc b) = and_then (paths_to img n hashes b) (λ _. path_audit img n (get_or hashes b 0) b)
