-- What an accepted change passed: every test of its definition. Assumes nothing.
use mathlib.Core.Path.{◌≡◌, refl, sym, ap}
use mathlib.Core.Bool.{Bool, true, false, cond, ◌&&◌}
use mathlib.Core.List.{List}
use Prim.Native.Nat.{ℕ, ◌+◌}
use native.Mathlib.Omega.{arith}
use lib.Dec.{leb, eqb}
use lib.ListN.{length}
use borrow.Author.Tests.{eqb-true}
use Rattle.answers.specs.Answers.{Answer, given, refused}
use Rattle.answers.proofs.Laws.{given_refused}
use Rattle.ht_file.specs.Places.{tags_fit, tag_pages}
use Rattle.ht_file.proofs.Laws.{both_hold}
use Rattle.page_diff.specs.Diff.{count_of}
use Rattle.probe.specs.Path.{allocating}
use Rattle.wal.specs.Log.{mark_size, clear_size, update_size}
use Rattle.wal.specs.Writer.{position, capacity, if_open, edition_of}
use Rattle.wal.specs.declared.Writer.{Writer}
use Rattle.wal.specs.declared.Writer.TheVariants.{Fresh, Open, Finished}
use Rattle.sync.specs.Change.{Mem, Does, clears, updates, allocates, does_of, Effect, cleared, updated, allocated, by_bucket, after_does, effect_of}
use Rattle.sync.specs.declared.Change.{Change}
use Rattle.sync.specs.declared.SyncState.{SyncState}

opens : (f g : Bool) (w : Writer) (a : Answer Effect) (e : Effect) → cond f (cond g (if_open w a) (refused 2)) (refused 1) ≡ given e → (f ≡ true) × (g ≡ true) × (a ≡ given e)
opens false g w a e h = absurd (given_refused e 1 (sym h))
opens true false w a e h = absurd (given_refused e 2 (sym h))
opens true true Fresh a e h = absurd (given_refused e 12 (sym h))
opens true true (Open p ed) a e h = (refl, refl, h)
opens true true (Finished n) a e h = absurd (given_refused e 12 (sym h))

with_room : (r : Bool) (a : Answer Effect) (e : Effect) → cond r a (refused 13) ≡ given e → (r ≡ true) × (a ≡ given e)
with_room true a e h = (refl, h)
with_room false a e h = absurd (given_refused e 13 (sym h))

-- a bucket that was sought is an allocated one
no_cleared : (a : Answer ℕ) (b : ℕ) → by_bucket a ≡ given (cleared b) → ⊥
no_cleared (given y) b h = let z : ◌≡◌ {A = ℕ} 0 1 = cc in omega arith
no_cleared (refused k) b h = given_refused (cleared b) k (sym h)

no_updated : (a : Answer ℕ) (b : ℕ) → by_bucket a ≡ given (updated b) → ⊥
no_updated (given y) b h = let z : ◌≡◌ {A = ℕ} 0 1 = cc in omega arith
no_updated (refused k) b h = given_refused (updated b) k (sym h)

the_bucket : (a : Answer ℕ) (b : ℕ) → by_bucket a ≡ given (allocated b) → a ≡ given b
the_bucket (given y) b h = let z : y ≡ b = cc in ap given z
the_bucket (refused k) b h = absurd (given_refused (allocated b) k (sym h))

module _ (st : SyncState) (m : Mem) (c : Change) where
  abbrev pub room : ℕ → Bool
  room size = leb (position st.writer + size + mark_size (edition_of st.writer)) (capacity m.log)

  abbrev big : ℕ
  big = update_size (edition_of st.writer) (count_of c.diff.words)

  abbrev found : Answer ℕ
  found = allocating st.limit m.tags st.n c.hash

  pub after_cleared : (a : Answer Does) (b : ℕ) → after_does st m c a ≡ given (cleared b) → (a ≡ given (clears b)) × (room (clear_size (edition_of st.writer)) ≡ true)
  after_cleared (refused k) b h = absurd (given_refused (cleared b) k (sym h))
  after_cleared (given (clears x)) b h =
      let w = with_room (room (clear_size (edition_of st.writer))) (given (cleared x)) (cleared b) h in
      let z : given (cleared x) ≡ given (cleared b) = w.1 in
      let y : x ≡ b = cc in (ap (λ (i : ℕ). given (clears i)) y, w.0)
  after_cleared (given (updates x)) b h =
      let z : given (updated x) ≡ given (cleared b) = (with_room (room big) (given (updated x)) (cleared b) h).1 in
      let y : ◌≡◌ {A = ℕ} 0 1 = cc in absurd (omega arith)
  after_cleared (given allocates) b h = absurd (no_cleared found b (with_room (room big) (by_bucket found) (cleared b) h).1)

  pub after_updated : (a : Answer Does) (b : ℕ) → after_does st m c a ≡ given (updated b) → (a ≡ given (updates b)) × (room big ≡ true)
  after_updated (refused k) b h = absurd (given_refused (updated b) k (sym h))
  after_updated (given (clears x)) b h =
      let z : given (cleared x) ≡ given (updated b) = (with_room (room (clear_size (edition_of st.writer))) (given (cleared x)) (updated b) h).1 in
      let y : ◌≡◌ {A = ℕ} 0 1 = cc in absurd (omega arith)
  after_updated (given (updates x)) b h =
      let w = with_room (room big) (given (updated x)) (updated b) h in
      let z : given (updated x) ≡ given (updated b) = w.1 in
      let y : x ≡ b = cc in (ap (λ (i : ℕ). given (updates i)) y, w.0)
  after_updated (given allocates) b h = absurd (no_updated found b (with_room (room big) (by_bucket found) (updated b) h).1)

  pub after_allocated : (a : Answer Does) (b : ℕ) → after_does st m c a ≡ given (allocated b) → (a ≡ given allocates) × (room big ≡ true) × (found ≡ given b)
  after_allocated (refused k) b h = absurd (given_refused (allocated b) k (sym h))
  after_allocated (given (clears x)) b h =
      let z : given (cleared x) ≡ given (allocated b) = (with_room (room (clear_size (edition_of st.writer))) (given (cleared x)) (allocated b) h).1 in
      let y : ◌≡◌ {A = ℕ} 0 1 = cc in absurd (omega arith)
  after_allocated (given (updates x)) b h =
      let z : given (updated x) ≡ given (allocated b) = (with_room (room big) (given (updated x)) (allocated b) h).1 in
      let y : ◌≡◌ {A = ℕ} 0 1 = cc in absurd (omega arith)
  after_allocated (given allocates) b h = let w = with_room (room big) (by_bucket found) (allocated b) h in (refl, w.0, the_bucket found b w.1)

-- the tags fit, there is a page, and the plan came to this
pub accepted_change : (st : SyncState) (m : Mem) (page : List ℕ) (c : Change) (e : Effect) → effect_of st m page c ≡ given e → (tags_fit st.n (length m.tags) ≡ true) × (length page ≡ 4096) × (after_does st m c (does_of st.n m.tags m.cells c) ≡ given e)
unfolding effect_of
accepted_change st m page c e h =
    let one = eqb (length page) 4096 in
    let two = eqb (length m.marks) (tag_pages st.n) in
    let o = opens (tags_fit st.n (length m.tags)) (one && two) st.writer (after_does st m c (does_of st.n m.tags m.cells c)) e h in
    (o.0, eqb-true (length page) 4096 (both_hold one two o.1).0, o.2)
