-- The code counts the hits that it passes and no visit that it passes is free: where it stops the definition stops, and past the limit no later
-- visit helps. Assumes nothing.
use Rattle.std.proofs.Common.{◌≡◌, refl, sym, ap, ap₂, ◌∙◌, arith, Bool, true, false, List, ℕ, ◌+◌, ◌*◌, ◌≤◌, ◌<◌, length, get_or}
use borrow.Author.Tests.{eq-eqb, ne_eqb}
use Rattle.answers.specs.Answers.{Answer, given, refused}
use Rattle.answers.specs.Refusals.{number_of}
use Rattle.ht_file.specs.Places.{tags_fit}
use Rattle.ht_file.proofs.Laws.{table_fits}
use Rattle.meta_map.specs.Tags.{full_tag, one}
use Rattle.probe.specs.declared.ProbeSequence.{ProbeSequence}
use Rattle.probe.specs.InnerWalk.{Stepped}
use Rattle.probe.specs.Path.{Limit, is_hit, free_at, allows, no_bucket_by, allocating, allocate_answer}
use Rattle.probe.proofs.Tests.{full_not_free}
use Rattle.probe.proofs.Visits.{hits_none, hits_next}
use Rattle.probe.proofs.Walk.{tags_room, passed_more, walk_start, walk_below, walk_ready, walk_stop, walk_next, walk_end}
use Rattle.probe.proofs.Allocating.{hits_to, allows_none, given_at, none_free, crowded}
use Rattle.probe.proofs.find_bucket.Invariants.{Counted}
use Rattle.probe.proofs.find_bucket.Goals.{then-tag-full+else-not-within_limit, else-tag-full}
use Rattle.probe.proofs.find_bucket.Goals as goal

-- what the definition answers on tags that fit
answered : (limit : Limit) (ts : List ℕ) (n h : ℕ) (a : Answer ℕ) → tags_fit n (length ts) ≡ true → allocating limit ts n h ≡ a → a ≡ allocate_answer limit ts n h
answered limit ts n h a fits e = rw (fits, e)

-- in a turn: the walk stands at visit k, in the bucket b, past so many hits
module _ (ts : List ℕ) (n h : ℕ) (limit : Limit) (k : ℕ) (p : ProbeSequence) (m : ℕ) (inv : Counted ts n h limit k p m) (b : ℕ) (here : b ≡ p.bucket) where
  -- the hits with this visit
  counted : (t : Bool) → is_hit h (get_or ts b 0) ≡ t → m + one t ≡ hits_to ts n h (k + 1)
  counted t e =
      ap₂ (λ (a : ℕ) (u : Bool). a + one u) inv.count (sym e ∙ ap (λ (c : ℕ). is_hit h (get_or ts c 0)) (here ∙ inv.walk.stand.1)) ∙ sym (hits_next ts n h k)

  -- a free bucket is given
  gives : k < 2 * n → tags_fit n (length ts) ≡ true → free_at ts b ≡ true → given b ≡ allocate_answer limit ts n h
  gives within fits e =
      answered limit ts n h (given b) fits
      (given_at limit ts n h b k (walk_stop (free_at ts) (length ts) n h 0 k p inv.walk (omega arith) (omega arith) b here e) (ap (allows limit) (sym inv.count) ∙ inv.few))

  -- a step on from another
  goes : (q : ProbeSequence) (m' : ℕ) (t : Bool) → free_at ts b ≡ false → is_hit h (get_or ts b 0) ≡ t → m' ≡ m + one t → allows limit m' ≡ true → m' ≤ k + 1 → Stepped p q
      → Counted ts n h limit (k + 1) q m'
  goes q m' t e f g few small d =
      record {
        walk = walk_next (free_at ts) (length ts) n h 0 k p inv.walk q b here e d;
        count = g ∙ counted t f;
        few = few;
        small = small;
      }

pub loop-visit-init : goal.loop-visit-init
loop-visit-init c =
    let a = c.args in
    let ts : List ℕ = a.tags.now in
    let f = tags_room ts a.n (table_fits _ (sym c.in_ok-check_tags.ensures)) in
    record {
      walk = walk_start (free_at ts) (length ts) a.n a.hash 0 c.new-path.result f.0 f.1 f.2 c.new-path.ensures;
      count = sym (hits_none ts a.n a.hash 0);
      few = allows_none a.limit;
      small = omega arith;
    }

pub advance-requires : goal.advance-requires
advance-requires c =
    let a = c.args in
    walk_ready (free_at a.tags.now) (length a.tags.now) a.n a.hash 0 c.loop-visit._visit c.loop-visit.path c.loop-visit.invariant.walk

pub bounds-tags-bucket : goal.bounds-tags-bucket
bounds-tags-bucket c =
    let a = c.args in
    let below = walk_below (free_at a.tags.now) (length a.tags.now) a.n a.hash 0 c.loop-visit._visit c.loop-visit.path c.loop-visit.invariant.walk in
    omega (arith, below.0, c.loop-visit.invariant.walk.room)

pub returns-then-not-within_limit : goal.returns-then-not-within_limit
returns-then-not-within_limit c =
    let a = c.args in
    let ts : List ℕ = a.tags.now in
    let k = c.loop-visit._visit in
    let b = c.loop-visit.path.bucket in
    let inv = c.loop-visit.invariant in
    let tag = c.if-tag-full.true ∙ c.full_entry-full.ensures in
    let count = counted ts a.n a.hash a.limit k c.loop-visit.path c.loop-visit.hits inv b refl true (eq-eqb (get_or ts b 0) (full_tag a.hash) tag) in
    let not_free = full_not_free a.hash (get_or ts b 0) tag in
    let passed = passed_more (free_at ts) a.n a.hash 0 k inv.walk.passed (ap (free_at ts) (sym (refl ∙ inv.walk.stand.1)) ∙ not_free) in
    answered a.limit ts a.n a.hash (refused 10) (table_fits _ (sym c.in_ok-check_tags.ensures))
    (crowded a.limit ts a.n a.hash (k + 1) (omega (arith, c.loop-visit-test.true)) passed (omega (arith, count))
    (ap (allows a.limit) (sym count) ∙ sym c.if-not-within_limit.ensures))

pub loop-visit-preserved : goal.loop-visit-preserved
loop-visit-preserved c =
    let a = c.args in
    let ts : List ℕ = a.tags.now in
    let k = c.loop-visit._visit in
    let b = c.loop-visit.path.bucket in
    let tag : ℕ = get_or ts b 0 in
    let inv = c.loop-visit.invariant in
    let free : free_at ts b ≡ false = sym c.if-is_free.ensures in
    elim c.if-tag-full.branch [
      | then-tag-full+else-not-within_limit w ↦ goes ts a.n a.hash a.limit k c.loop-visit.path c.loop-visit.hits inv b refl c.advance.new.self c.if-tag-full.hits true free (eq-eqb tag (full_tag a.hash) (w.if-tag-full.true ∙ c.full_entry-full.ensures)) w.hits-is (ap (allows a.limit) w.hits-is ∙ sym w.if-not-within_limit.ensures) (omega (arith, w.hits-is, inv.small)) c.advance.ensures
      | else-tag-full w ↦ goes ts a.n a.hash a.limit k c.loop-visit.path c.loop-visit.hits inv b refl c.advance.new.self c.if-tag-full.hits false free (ne_eqb tag (full_tag a.hash) (λ q. w.if-tag-full.false (q ∙ sym c.full_entry-full.ensures))) (w.hits-is ∙ omega arith) (ap (allows a.limit) w.hits-is ∙ inv.few) (omega (arith, w.hits-is, inv.small)) c.advance.ensures
    ]

pub returns-then-is_free : goal.returns-then-is_free
returns-then-is_free c =
    let a = c.args in
    gives a.tags.now a.n a.hash a.limit c.loop-visit._visit c.loop-visit.path c.loop-visit.hits c.loop-visit.invariant c.loop-visit.path.bucket refl c.loop-visit-test.true (table_fits _ (sym c.in_ok-check_tags.ensures)) (sym c.if-is_free.ensures)

pub returns : goal.returns
returns c =
    let a = c.args in
    let ts : List ℕ = a.tags.now in
    let inv = c.loop-visit.invariant in
    let last : 2 * a.n ≡ c.loop-visit._visit = omega (arith, c.loop-visit-test.false, c.loop-visit.auto) in
    answered a.limit ts a.n a.hash (refused (number_of c.no_bucket.result)) (table_fits _ (sym c.in_ok-check_tags.ensures))
    (none_free a.limit ts a.n a.hash (walk_end (free_at ts) (length ts) a.n a.hash 0 c.loop-visit._visit c.loop-visit.path inv.walk (omega (arith, last)))
    ∙ ap refused (ap (no_bucket_by a.limit) (ap (λ (k : ℕ). hits_to ts a.n a.hash k) last ∙ sym inv.count) ∙ sym c.no_bucket.ensures))
