-- No visit before this one is free, and so many of them are hits. Assumes nothing.
use Rattle.std.proofs.Common.{◌≡◌, true, List, ℕ, ◌≤◌, length}
use Rattle.probe.specs.declared.ProbeSequence.{ProbeSequence}
use Rattle.probe.specs.Path.{Limit, free_at, allows}
use Rattle.probe.proofs.Walk.{Walking}
use Rattle.probe.proofs.Allocating.{hits_to}
use Rattle.probe.proofs.find_bucket.Given as goal

pub record Counted (ts : List ℕ) (n h : ℕ) (limit : Limit) (k : ℕ) (p : ProbeSequence) (hits : ℕ) : Type 0 where
  pub walk : Walking (free_at ts) (length ts) n h 0 k p
  pub count : hits ≡ hits_to ts n h k
  pub few : allows limit hits ≡ true
  pub small : hits ≤ k

abbrev pub invariant-loop-visit : goal.invariant-loop-visit
invariant-loop-visit l = Counted l.tags l.n l.hash l.limit l._visit l.path l.hits
