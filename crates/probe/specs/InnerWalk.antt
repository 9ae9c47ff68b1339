-- How the code walks along a path; none of this is in what a call answers. Assumes nothing.
use Rattle.std.specs.Prelude.{◌≡◌, ℕ, ◌+◌, ◌%◌, cond, eqb, Option, None, Some}
use Rattle.probe.specs.Path.{visit, is_empty, is_tombstone}
use Rattle.probe.specs.declared.ProbeSequence.{ProbeSequence}
use Rattle.probe.specs.declared.Probed.{Probed}
use Rattle.probe.specs.declared.Probed.TheVariants as probed

-- the path of the hash h stands at visit k, and its step leads to the next one
abbrev pub stands : ℕ → ℕ → ℕ → ProbeSequence → Type 0
stands n h k p = (p.n ≡ n) × (p.bucket ≡ visit n h k) × (p.step ≡ (k + 1) % n)

-- what a step makes of it
abbrev pub Stepped : ProbeSequence → ProbeSequence → Type 0
Stepped p q = (q.n ≡ p.n) × (q.bucket ≡ (p.bucket + p.step) % p.n) × (q.step ≡ (p.step + 1) % p.n)

-- what a walk comes to at visit k, in the bucket b with the tag t, where the full tag f is a hit's
abbrev pub probed_by : ℕ → ℕ → ℕ → ℕ → Option Probed
probed_by t f b k =
    cond (is_empty t) (Some (probed.Empty b k)) (cond (is_tombstone t) (Some (probed.Tombstone b k)) (cond (eqb t f) (Some (probed.PossibleHit b k)) None))
