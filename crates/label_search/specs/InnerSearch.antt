-- What every way to search finds. Assumes nothing.
use Rattle.std.specs.Prelude.{◌≡◌, true, false, List, ℕ, ◌≤◌, ◌<◌}
use Rattle.label_search.specs.Labels.{doubled}

-- the first doubled bucket before k, or k
pub record FirstBefore (img : List ℕ) (n k r : ℕ) : Type 0 where
  pub within : r ≤ k
  pub none : (b : ℕ) → b < r → doubled img n b ≡ false
  pub there : r < k → doubled img n r ≡ true

abbrev pub FirstDoubled : List ℕ → ℕ → ℕ → Type 0
FirstDoubled img n r = FirstBefore img n n r
