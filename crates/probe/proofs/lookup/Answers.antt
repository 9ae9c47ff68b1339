-- Where the code stops the definition's lookup stops, and every other visit it passes. Assumes nothing.
use Rattle.std.proofs.Common.{◌≡◌, refl, sym, ap, ◌∙◌, arith, Bool, true, false, List, ℕ, ◌+◌, ◌*◌, ◌<◌, length, get_or, take, drop}
use borrow.Author.Tests.{eq-eqb, ne_eqb}
use Rattle.answers.specs.Answers.{given}
use Rattle.blocks.specs.Blocks.{same_bytes}
use Rattle.ht_file.specs.Places.{image_fits, page_start, start_in}
use Rattle.ht_file.proofs.Laws.{start_is, table_fits}
use Rattle.meta_map.specs.Tags.{full_tag}
use Rattle.probe.specs.declared.ProbeSequence.{ProbeSequence}
use Rattle.probe.specs.Path.{Stop, stop_at, nowhere, page_end, Sought, found_at, absent, unreached, stops_lookup, lookup_stop, lookup_saw, looking_up, lookup_answer}
use Rattle.probe.proofs.Tests.{empty_is, empty_not}
use Rattle.probe.proofs.Walk.{Walking, walk_below, walk_ready, walk_stop, walk_next, walk_end}
use Rattle.probe.proofs.lookup.Goals.{else-tag-full-via-then-tag-full+else-ends_in, else-tag-full-via-else-tag-full}
use Rattle.probe.proofs.lookup.Goals as goal

-- what the definition answers, from where its walk stops
answered : (img : List ℕ) (n h : ℕ) (id : List ℕ) (s : Stop) (a : Sought) → image_fits n (length img) ≡ true → lookup_stop img n h id ≡ s → lookup_saw img s ≡ a
    → given a ≡ lookup_answer img n h id
unfolding looking_up
answered img n h id s a fits e q = rw (fits, e, q)

-- in a turn: the walk stands at visit k, in the bucket b
module _ (img : List ℕ) (n h : ℕ) (id : List ℕ) (k : ℕ) (p : ProbeSequence) (walk : Walking (stops_lookup img n h id) (length img) n h 0 k p) (b : ℕ) (here : b ≡ p.bucket) where
  -- what was compared in the bucket's page
  compared : (x : ℕ) (r t : Bool) → x ≡ start_in n b → r ≡ same_bytes (take 32 (drop (x + 4064) img)) id → r ≡ t → same_bytes (page_end img n b) id ≡ t
  compared x r t e q d =
      let below = walk_below (stops_lookup img n h id) (length img) n h 0 k p walk in
      let place : x ≡ page_start n b = e ∙ start_is n b walk.few (omega (arith, below.0)) in
      ap (λ (y : ℕ). same_bytes (take 32 (drop (y + 4064) img)) id) (sym place) ∙ sym q ∙ d

  -- the lookup stops here
  stopped : (a : Sought) → image_fits n (length img) ≡ true → k < 2 * n → stops_lookup img n h id b ≡ true → lookup_saw img (stop_at b k) ≡ a → given a ≡ lookup_answer img n h id
  stopped a fits within e q =
      answered img n h id (stop_at b k) a fits (walk_stop (stops_lookup img n h id) (length img) n h 0 k p walk (omega arith) (omega arith) b here e) q

pub advance-requires : goal.advance-requires
advance-requires c =
    let a = c.args in
    walk_ready (stops_lookup a.image.now a.n a.hash a.id) (length a.image.now) a.n a.hash 0 c.loop-visit._visit c.loop-visit.path c.loop-visit.invariant

pub bounds-image-bucket : goal.bounds-image-bucket
bounds-image-bucket c =
    let a = c.args in
    let below = walk_below (stops_lookup a.image.now a.n a.hash a.id) (length a.image.now) a.n a.hash 0 c.loop-visit._visit c.loop-visit.path c.loop-visit.invariant in
    omega (arith, below.0, c.loop-visit.invariant.room)

pub returns-then-tag-eq-EMPTY : goal.returns-then-tag-eq-EMPTY
returns-then-tag-eq-EMPTY c =
    let a = c.args in
    let b = c.loop-visit.path.bucket in
    let e = empty_is (get_or a.image.now b 0) c.if-tag-eq-EMPTY.true in
    stopped a.image.now a.n a.hash a.id c.loop-visit._visit c.loop-visit.path c.loop-visit.invariant b refl absent (table_fits _ (sym c.in_ok-check_image.ensures)) c.loop-visit-test.true (rw e) (rw e)

pub returns-then-ends_in : goal.returns-then-ends_in
returns-then-ends_in c =
    let a = c.args in
    let b = c.loop-visit.path.bucket in
    let e = empty_not (get_or a.image.now b 0) c.if-tag-eq-EMPTY.false in
    let f = eq-eqb (get_or a.image.now b 0) (full_tag a.hash) (c.if-tag-full.true ∙ c.full_entry-full.ensures) in
    let s = compared a.image.now a.n a.hash a.id c.loop-visit._visit c.loop-visit.path c.loop-visit.invariant b refl c.page_start.result c.ends_in.result true c.page_start.ensures c.ends_in.ensures c.if-ends_in.true in
    stopped a.image.now a.n a.hash a.id c.loop-visit._visit c.loop-visit.path c.loop-visit.invariant b refl (found_at b) (table_fits _ (sym c.in_ok-check_image.ensures)) c.loop-visit-test.true (rw (e, f, s)) (rw e)

pub loop-visit-preserved : goal.loop-visit-preserved
loop-visit-preserved c =
    let a = c.args in
    let b = c.loop-visit.path.bucket in
    let tag : ℕ = get_or a.image.now b 0 in
    let e = empty_not tag c.if-tag-eq-EMPTY.false in
    let goes : stops_lookup a.image.now a.n a.hash a.id b ≡ false =
    elim c.else-tag-full.branch [
      | else-tag-full-via-then-tag-full+else-ends_in w ↦ let s = compared a.image.now a.n a.hash a.id c.loop-visit._visit c.loop-visit.path c.loop-visit.invariant b refl w.page_start.result w.ends_in.result false w.page_start.ensures w.ends_in.ensures w.if-ends_in.false in let f = eq-eqb tag (full_tag a.hash) (w.if-tag-full.true ∙ c.full_entry-full.ensures) in rw (e, f, s)
      | else-tag-full-via-else-tag-full w ↦ let f = ne_eqb tag (full_tag a.hash) (λ q. w.if-tag-full.false (q ∙ sym c.full_entry-full.ensures)) in rw (e, f)
    ] in
    walk_next (stops_lookup a.image.now a.n a.hash a.id) (length a.image.now) a.n a.hash 0 c.loop-visit._visit c.loop-visit.path c.loop-visit.invariant c.advance.new.self b refl goes c.advance.ensures

pub returns : goal.returns
returns c =
    let a = c.args in
    answered a.image.now a.n a.hash a.id nowhere unreached (table_fits _ (sym c.in_ok-check_image.ensures))
    (walk_end (stops_lookup a.image.now a.n a.hash a.id) (length a.image.now) a.n a.hash 0 c.loop-visit._visit c.loop-visit.path c.loop-visit.invariant (omega (arith, c.loop-visit-test.false, c.loop-visit.auto))) refl
