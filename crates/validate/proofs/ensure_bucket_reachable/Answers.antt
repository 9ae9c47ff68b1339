-- After n visits, all have been passed. Assumes nothing.
use Rattle.std.proofs.Common.{◌≡◌, sym, ap, ◌∙◌, arith, List, ℕ, ◌+◌, ◌%◌, ◌<◌, length, get_or}
use mathlib.Core.Path.{subst}
use native.Mathlib.Nat.{add-zero}
use Rattle.ht_file.proofs.Laws.{image_fits_facts}
use Rattle.probe.specs.Path.{visit}
use Rattle.probe.proofs.Visits.{visit_below}
use Rattle.probe.proofs.Walk.{Passed, passed_none, passed_more}
use Rattle.validate.specs.Audit.{stops_reach}
use Rattle.validate.proofs.Reaches.{on_below, on_round, passes, reached_at, empty_at_lem, never_at}
use Rattle.validate.proofs.ensure_bucket_reachable.Goals.{then-n-bucket, else-n-bucket}
use Rattle.validate.proofs.ensure_bucket_reachable.Goals as goal

-- the first visit
home : (n h : ℕ) → h % n ≡ visit n h 0
unfolding visit
home n h = ap (λ (x : ℕ). x % n) (sym (add-zero h))

-- one visit is passed
on : (img : List ℕ) (n h b k c : ℕ) → 0 < n → c ≡ visit n h k → Passed (stops_reach img b) n h 0 k → (c ≡ b → ⊥) → (get_or img c 0 ≡ 0x00 → ⊥) → Passed (stops_reach img b) n h 0 (k + 1)
on img n h b k c some here passed other used =
    passed_more (stops_reach img b) n h 0 k passed
    (passes img n h b some (visit n h k) (λ e. other (here ∙ e)) (λ e. used (ap (λ (i : ℕ). get_or img i 0) here ∙ e)))

pub loop-k-init : goal.loop-k-init
loop-k-init c = (home c.args.n c.args.hash, passed_none (stops_reach c.args.image.now c.args.b) c.args.n c.args.hash 0)

pub returns-then-bucket-b : goal.returns-then-bucket-b
returns-then-bucket-b c =
    let a = c.args in
    let inv = c.loop-k.invariant in
    sym (reached_at a.image.now a.n a.hash a.b (omega arith) c.loop-k.k c.loop-k-test.true inv.1 (sym inv.0 ∙ c.if-bucket-b.true))

pub bounds-image-bucket : goal.bounds-image-bucket
bounds-image-bucket c =
    let a = c.args in
    omega (arith, image_fits_facts a.n (length a.image.now) c.requires, c.loop-k.invariant.0, visit_below a.n a.hash c.loop-k.k (omega arith))

pub returns-then-image-bucket-eq-EMPTY : goal.returns-then-image-bucket-eq-EMPTY
returns-then-image-bucket-eq-EMPTY c =
    let a = c.args in
    let inv = c.loop-k.invariant in
    sym (empty_at_lem a.image.now a.n a.hash a.b (omega arith) c.loop-k.k c.loop-k-test.true inv.1 (λ e. c.if-bucket-b.false (inv.0 ∙ e))
    (ap (λ (i : ℕ). get_or a.image.now i 0) (sym inv.0) ∙ c.if-image-bucket-eq-EMPTY.true))

pub loop-k-preserved : goal.loop-k-preserved
loop-k-preserved c =
    let a = c.args in
    let inv = c.loop-k.invariant in (
      elim c.if-n-bucket.branch [
        | then-n-bucket w ↦ w.bucket-is ∙ on_round a.n a.hash c.loop-k.k c.loop-k.bucket (omega arith) inv.0 c.loop-k-test.true w.if-n-bucket.true
        | else-n-bucket w ↦ w.bucket-is ∙ on_below a.n a.hash c.loop-k.k c.loop-k.bucket inv.0 w.if-n-bucket.false
      ],
      on a.image.now a.n a.hash a.b c.loop-k.k c.loop-k.bucket (omega arith) inv.0 inv.1 c.if-bucket-b.false c.if-image-bucket-eq-EMPTY.false,
    )

pub returns : goal.returns
returns c =
    let a = c.args in
    let inv = c.loop-k.invariant in
    let e : c.loop-k.k ≡ a.n = omega (arith, c.loop-k-test.false) in
    sym (never_at a.image.now a.n a.hash a.b (image_fits_facts a.n (length a.image.now) c.requires).0 (subst (Passed (stops_reach a.image.now a.b) a.n a.hash 0) e inv.1))
