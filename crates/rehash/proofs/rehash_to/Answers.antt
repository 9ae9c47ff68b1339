-- A refusal ends the growth, and all is zero again. Assumes nothing.
use Rattle.std.proofs.Common.{◌≡◌, sym, ap, ◌∙◌, arith, List, ℕ, ◌+◌, ◌-◌, length, get_or, replicate}
use lib.ListN.{length-replicate}
use Rattle.answers.specs.Answers.{Answer, given, refused}
use Rattle.answers.specs.Refusals.{number_of}
use Rattle.ht_file.specs.Places.{image_length}
use Rattle.ht_file.proofs.Laws.{image_fits_facts}
use Rattle.probe.specs.Path.{hit_limit}
use Rattle.rehash.specs.Growth.{bucket_moved, grown_to, copied, end_of, image_or, zeroed}
use Rattle.rehash.proofs.Moves.{moved_length, grown_none, grown_next, grown_stop, end_given, end_refused}
use Rattle.rehash.proofs.rehash_to.Goals as goal

pub loop-b-init : goal.loop-b-init
loop-b-init c =
    let a = c.args in
    let f = image_fits_facts a.new_n (length a.new_image.now) c.requires.1 in
    let z : c.zero_all.new.s ≡ zeroed a.new_n = c.zero_all.ensures ∙ ap (λ (k : ℕ). replicate k 0) f.2 in (
      grown_none hit_limit a.old_image.now a.old_n a.new_n a.hashes.now ∙ ap given (sym z),
      ap length z ∙ length-replicate (image_length a.new_n) 0,
    )

pub returns-in-Err : goal.returns-in-Err
returns-in-Err c =
    let a = c.args in
    let b = c.loop-b.b in
    let img = c.loop-b.new_image in
    let m = number_of c.in-Err.why in
    let x : Answer (List ℕ) = bucket_moved hit_limit a.old_image.now a.old_n a.new_n (get_or a.hashes.now b 0) b img in
    let is_refused : x ≡ refused m = end_refused x m c.in-Err.ensures.0 in
    let d : b + 1 + (a.old_n - (b + 1)) ≡ a.old_n = omega (arith, c.loop-b-test.true) in
    let e : copied hit_limit a.old_image.now a.old_n a.new_n a.hashes.now ≡ refused m =
    ap (grown_to hit_limit a.old_image.now a.old_n a.new_n a.hashes.now) (sym d)
    ∙ grown_stop hit_limit a.old_image.now a.old_n a.new_n a.hashes.now (b + 1) m (a.old_n - (b + 1))
    (grown_next hit_limit a.old_image.now a.old_n a.new_n a.hashes.now b img c.loop-b.invariant.0 ∙ is_refused) in
    let long : length c.move_bucket.new.new_image ≡ image_length a.new_n = ap length (c.in-Err.ensures.1 ∙ ap (image_or img) is_refused) ∙ c.loop-b.invariant.1 in (
      sym (ap (end_of tt) e),
      c.zero_all-in-Err.ensures ∙ ap (λ (k : ℕ). replicate k 0) long ∙ sym (ap (image_or (zeroed a.new_n)) e),
    )

pub loop-b-preserved : goal.loop-b-preserved
loop-b-preserved c =
    let a = c.args in
    let b = c.loop-b.b in
    let img = c.loop-b.new_image in
    let x : Answer (List ℕ) = bucket_moved hit_limit a.old_image.now a.old_n a.new_n (get_or a.hashes.now b 0) b img in
    let e : x ≡ given (image_or img x) = end_given x img c.in_default.ensures.0 in (
      grown_next hit_limit a.old_image.now a.old_n a.new_n a.hashes.now b img c.loop-b.invariant.0 ∙ e ∙ ap given (sym c.in_default.ensures.1),
      ap length c.in_default.ensures.1 ∙ moved_length hit_limit a.old_image.now a.old_n a.new_n (get_or a.hashes.now b 0) b img (image_or img x) e ∙ c.loop-b.invariant.1,
    )
