-- A refusal stays. Assumes nothing.
use Rattle.std.proofs.Common.{◌≡◌, sym, ap, ◌∙◌, arith, rules, List, ℕ, ◌+◌, ◌-◌, ◌≤◌, ◌<◌, length, get_or, take}
use Rattle.std.proofs.Math.Seq.{get_or-take, length-take-le}
use Rattle.answers.specs.Answers.{given, refused}
use Rattle.answers.specs.Refusals.{number_of}
use Rattle.validate.specs.Audit.{path_audit}
use Rattle.validate.specs.InnerAudit.{paths_to}
use Rattle.validate.proofs.Audits.{paths_none, paths_next, paths_stop}
use Rattle.validate.proofs.check_buckets.Goals as goal

module _ (img : List ℕ) (n : ℕ) (hashes : List ℕ) (end : ℕ) (within : end ≤ length hashes) (b : ℕ) where
  before_end : b < length (take end hashes) → b < end
  before_end l = omega (arith, length-take-le end hashes within)

  -- a bucket more, by the hash that was read for it
  next : b < end → paths_to img n hashes b ≡ given tt → paths_to img n hashes (b + 1) ≡ path_audit img n (get_or (take end hashes) b 0) b
  next l p = paths_next img n hashes b p ∙ ap (λ (h : ℕ). path_audit img n h b) (sym (get_or-take end hashes b 0 l))

  stop : (m : ℕ) → b < end → paths_to img n hashes b ≡ given tt → refused m ≡ path_audit img n (get_or (take end hashes) b 0) b → paths_to img n hashes end ≡ refused m
  stop m l p e =
      let d : b + 1 + (end - (b + 1)) ≡ end = omega arith in
      ap (paths_to img n hashes) (sym d) ∙ paths_stop img n hashes (b + 1) m (end - (b + 1)) (next l p ∙ sym e)

pub loop-b-init : goal.loop-b-init
loop-b-init c = paths_none c.args.image.now c.args.n c.args.hashes.now

pub returns-in_err-check_bucket : goal.returns-in_err-check_bucket
returns-in_err-check_bucket c =
    let a = c.args in
    let within : a.end ≤ length a.hashes.now = omega arith in
    let l = before_end a.image.now a.n a.hashes.now a.end within c.loop-b.b c.loop-b-test.true in
    let told = stop a.image.now a.n a.hashes.now a.end within c.loop-b.b (number_of c.in_err-check_bucket.field-0.0) l c.loop-b.invariant c.in_err-check_bucket.ensures in
    search rules

pub loop-b-preserved : goal.loop-b-preserved
loop-b-preserved c =
    let a = c.args in
    let within : a.end ≤ length a.hashes.now = omega arith in
    let l = before_end a.image.now a.n a.hashes.now a.end within c.loop-b.b c.loop-b-test.true in
    next a.image.now a.n a.hashes.now a.end within c.loop-b.b l c.loop-b.invariant ∙ sym c.in_ok-check_bucket.ensures

pub returns : goal.returns
returns c =
    let a = c.args in
    let e : c.loop-b.b ≡ a.end = omega (arith, length-take-le a.end a.hashes.now) in
    sym (ap (paths_to a.image.now a.n a.hashes.now) (sym e) ∙ c.loop-b.invariant)
