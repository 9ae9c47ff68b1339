-- What a change has done says which kind its bucket's tag had before: full where it cleared or updated, empty or a tombstone where it allocated.
-- Assumes nothing.
use mathlib.Core.Path.{◌≡◌, ap, ◌∙◌}
use mathlib.Core.Bool.{Bool, true, cond}
use mathlib.Core.List.{List}
use Prim.Native.Nat.{ℕ}
use lib.ListN.{get_or}
use borrow.Author.Tests.{eqb-true}
use Rattle.answers.specs.Answers.{given, refused}
use Rattle.meta_map.specs.Tags.{full, is_kind, kind_of, full_tag}
use Rattle.meta_map.proofs.Laws.{full_tag_kind}
use Rattle.page_diff.specs.Diff.{marked}
use Rattle.probe.specs.Path.{allocating}
use Rattle.probe.proofs.Promises.{allocated_bucket}
use Rattle.sync_parts.specs.Parts.{tag_fits}
use Rattle.sync.specs.Change.{Mem, clears, updates, Does, does_of, Effect, cleared, updated, allocated, kind_before, kind_taken, effect_of}
use Rattle.sync.specs.declared.Change.{Change}
use Rattle.sync.specs.declared.SyncState.{SyncState}
use Rattle.sync.proofs.Accepted.{after_cleared, after_updated, after_allocated, accepted_change}
use Rattle.sync.proofs.Plans.{Told, as_clear, as_update, does_told}

module _ (st : SyncState) (m : Mem) (page : List ℕ) (c : Change) where
  abbrev plan : Does → Type 0
  plan d = Told st.n m.tags c.hash (marked c.diff.words 127) d

  -- the hash's tag is full
  own_full : (b : ℕ) → tag_fits c.hash (get_or m.tags b 0) ≡ true → is_kind full (kind_of (get_or m.tags b 0)) ≡ true
  own_full b q = ap (λ (t : ℕ). is_kind full (kind_of t)) (eqb-true (get_or m.tags b 0) (full_tag c.hash) q) ∙ ap (is_kind full) (full_tag_kind c.hash)

  clear_own : (b : ℕ) → plan (clears b) → tag_fits c.hash (get_or m.tags b 0) ≡ true
  clear_own b (as_clear l s q) = q

  update_own : (b : ℕ) → plan (updates b) → tag_fits c.hash (get_or m.tags b 0) ≡ true
  update_own b (as_update l s q) = q

  -- "after an accepted clear the bucket that became a tombstone had the tag of the change's hash"
  pub cleared_own : (b : ℕ) → effect_of st m page c ≡ given (cleared b) → get_or m.tags b 0 ≡ full_tag c.hash
  cleared_own b h =
      let a = accepted_change st m page c (cleared b) h in
      eqb-true (get_or m.tags b 0) (full_tag c.hash) (clear_own b (does_told st.n m.tags m.cells c (clears b) (after_cleared st m c (does_of st.n m.tags m.cells c) b a.2).0))

  pub kind_taken_lem : (e : Effect) → effect_of st m page c ≡ given e → kind_taken e (kind_before e m.tags) ≡ true
  kind_taken_lem (cleared b) h =
      let a = accepted_change st m page c (cleared b) h in
      own_full b (clear_own b (does_told st.n m.tags m.cells c (clears b) (after_cleared st m c (does_of st.n m.tags m.cells c) b a.2).0))
  kind_taken_lem (updated b) h =
      let a = accepted_change st m page c (updated b) h in
      own_full b (update_own b (does_told st.n m.tags m.cells c (updates b) (after_updated st m c (does_of st.n m.tags m.cells c) b a.2).0))
  kind_taken_lem (allocated b) h =
      let a = accepted_change st m page c (allocated b) h in
      let g = (after_allocated st m c (does_of st.n m.tags m.cells c) b a.2).2 in
      let r = allocated_bucket st.limit m.tags st.n c.hash b (ap (λ (t : Bool). cond t (allocating st.limit m.tags st.n c.hash) (refused 1)) a.0 ∙ g) in
      r.1.was_free
