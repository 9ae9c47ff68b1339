-- The code stops at the first empty, tombstone or hit from the start on, or at the end. Assumes nothing.
use Rattle.std.proofs.Common.{◌≡◌, refl, sym, ap, arith, Bool, true, false, cond, ◌||◌, None, Some, Ok, List, ℕ, ◌+◌, ◌*◌, ◌%◌, ◌≤◌, ◌<◌, length, get_or, ◌∙◌}
use Rattle.answers.specs.Answers.{given}
use Rattle.ht_file.specs.Places.{tags_fit}
use Rattle.ht_file.proofs.Laws.{table_fits}
use Rattle.meta_map.specs.Tags.{full_tag}
use Rattle.probe.specs.declared.ProbeSequence.{ProbeSequence}
use Rattle.probe.specs.Path.{Stop, stop_at, nowhere, first_stop, path_from, Probe, empty_at, tombstone_at, hit_at, closed, is_empty, is_tombstone, is_hit, stops_probe, probe_saw, probing, probe_answer, probed_said}
use Rattle.probe.specs.InnerWalk.{probed_by}
use Rattle.probe.specs.declared.Probed.{Probed}
use Rattle.probe.specs.declared.Probed.TheVariants as probed
use Rattle.probe.proofs.Walk.{Walking, walk_below, walk_ready, walk_stop, walk_next, walk_end}
use Rattle.probe.proofs.probe_from.Goals as goal

-- what the definition answers, from where its walk stops
answered : (ts : List ℕ) (n h k : ℕ) (s : Stop) (a : Probe) → tags_fit n (length ts) ≡ true
    → first_stop (stops_probe ts h) (k % (2 * n)) (path_from n h (k % (2 * n))) ≡ s → probe_saw ts s ≡ a → given a ≡ probe_answer ts n h k
unfolding probing
answered ts n h k s a fits e q = rw (fits, e, q)

-- in a turn: the walk stands at visit v, in the bucket b, and stops there
stopped : (ts : List ℕ) (n h k v : ℕ) (p : ProbeSequence) → Walking (stops_probe ts h) (length ts) n h (k % (2 * n)) v p → k % (2 * n) ≤ v → v < k % (2 * n) + 2 * n
    → (b : ℕ) → b ≡ p.bucket → (a : Probe) → tags_fit n (length ts) ≡ true → stops_probe ts h b ≡ true → probe_saw ts (stop_at b v) ≡ a → given a ≡ probe_answer ts n h k
stopped ts n h k v p walk from within b here a fits e q =
    answered ts n h k (stop_at b v) a fits (walk_stop (stops_probe ts h) (length ts) n h (k % (2 * n)) v p walk from within b here e) q

-- what the code comes to at a visit, by its three tests
seen_by : (x y z : Bool) (b v : ℕ) (p : Probed) → cond x (Some (probed.Empty b v)) (cond y (Some (probed.Tombstone b v)) (cond z (Some (probed.PossibleHit b v)) None)) ≡ Some p
    → (((x || y) || z) ≡ true) × (probed_said (Ok p) ≡ given (cond x (empty_at b v) (cond y (tombstone_at b v) (hit_at b v))))
seen_by true y z b v p e = let q : p ≡ probed.Empty b v = cc in (refl, ap (λ (r : Probed). probed_said (Ok r)) q)
seen_by false true z b v p e = let q : p ≡ probed.Tombstone b v = cc in (refl, ap (λ (r : Probed). probed_said (Ok r)) q)
seen_by false false true b v p e = let q : p ≡ probed.PossibleHit b v = cc in (refl, ap (λ (r : Probed). probed_said (Ok r)) q)
seen_by false false false b v p e = absurd cc

unseen_by : (x y z : Bool) (b v : ℕ) → cond x (Some (probed.Empty b v)) (cond y (Some (probed.Tombstone b v)) (cond z (Some (probed.PossibleHit b v)) None)) ≡ None → ((x || y) || z) ≡ false
unseen_by true y z b v e = absurd cc
unseen_by false true z b v e = absurd cc
unseen_by false false true b v e = absurd cc
unseen_by false false false b v e = refl

pub advance-requires : goal.advance-requires
advance-requires c =
    let a = c.args in
    walk_ready (stops_probe a.tags.now a.hash) (length a.tags.now) a.n a.hash (a.k % (2 * a.n)) c.loop-visit.visit c.loop-visit.path c.loop-visit.invariant

pub bounds-tags-path : goal.bounds-tags-path
bounds-tags-path c =
    let a = c.args in
    let below = walk_below (stops_probe a.tags.now a.hash) (length a.tags.now) a.n a.hash (a.k % (2 * a.n)) c.loop-visit.visit c.loop-visit.path c.loop-visit.invariant in
    omega (arith, below.0, c.loop-visit.invariant.room)

pub returns-in-Some : goal.returns-in-Some
returns-in-Some c =
    let a = c.args in
    let ts : List ℕ = a.tags.now in
    let b = c.loop-visit.path.bucket in
    let v = c.loop-visit.visit in
    let tag : ℕ = get_or ts b 0 in
    let told : probed_by tag (full_tag a.hash) b v ≡ Some c.in-Some.probed = ap (λ (f : ℕ). probed_by tag f b v) (sym c.full_entry-full.ensures) ∙ sym c.probed_at.ensures ∙ c.in-Some.is in
    let s = seen_by (is_empty tag) (is_tombstone tag) (is_hit a.hash tag) b v c.in-Some.probed told in
    s.1 ∙ stopped ts a.n a.hash a.k v c.loop-visit.path c.loop-visit.invariant (omega (arith, c.loop-visit.auto)) (omega (arith, c.loop-visit-test.true)) b refl (probe_saw ts (stop_at b v)) (table_fits _ (sym c.in_ok-check_tags.ensures)) s.0 refl

pub loop-visit-preserved : goal.loop-visit-preserved
loop-visit-preserved c =
    let a = c.args in
    let ts : List ℕ = a.tags.now in
    let b = c.loop-visit.path.bucket in
    let v = c.loop-visit.visit in
    let tag : ℕ = get_or ts b 0 in
    let told : probed_by tag (full_tag a.hash) b v ≡ None = ap (λ (f : ℕ). probed_by tag f b v) (sym c.full_entry-full.ensures) ∙ sym c.probed_at.ensures ∙ c.in_default.is in
    let s = unseen_by (is_empty tag) (is_tombstone tag) (is_hit a.hash tag) b v told in
    walk_next (stops_probe ts a.hash) (length ts) a.n a.hash (a.k % (2 * a.n)) v c.loop-visit.path c.loop-visit.invariant c.advance.new.self b refl s c.advance.ensures

pub returns : goal.returns
returns c =
    let a = c.args in
    answered a.tags.now a.n a.hash a.k nowhere closed (table_fits _ (sym c.in_ok-check_tags.ensures))
    (walk_end (stops_probe a.tags.now a.hash) (length a.tags.now) a.n a.hash (a.k % (2 * a.n)) c.loop-visit.visit c.loop-visit.path c.loop-visit.invariant (omega (arith, c.loop-visit-test.false, c.loop-visit.auto))) refl
