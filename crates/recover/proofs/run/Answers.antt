-- k steps make replay of the first k entries, and at the end that is all of them; the log was checked, so no step refuses.
-- Assumes nothing.
use Rattle.std.proofs.Common.{arith, ◌≡◌, ◌+◌, ◌≤◌, ℕ, suc, List, Ok, length, get_or, true, sym, ap, ◌∙◌, subst}
use Rattle.answers.specs.Refusals.{number_of}
use Rattle.ht_file.specs.Places.{image_fits}
use Rattle.wal.specs.Log.{start_size}
use Rattle.wal.specs.Reader.{edition_at}
use Rattle.wal.specs.declared.AfterEnd.TheVariants.{Tolerant}
use Rattle.wal.specs.declared.Edition.{Edition}
use Rattle.recover.specs.Replay.{stepped_said, step_answer, step_image}
use Rattle.recover.specs.declared.Stepped.{Stepped}
use Rattle.recover.specs.declared.Stepped.TheVariants as S
use Rattle.recover.proofs.Runs.{Running, run_start, run_long, after_clear, after_update, at_the_end, not_refused}
use Rattle.recover.proofs.run.Goals as goal
use Rattle.recover.proofs.run.Goals.{After-apply_at}

-- the image is still the table's
fits : (c : After-apply_at) → image_fits c.args.n (length c.loop-next.image) ≡ true
fits c = ap (image_fits c.args.n) (run_long Tolerant c.args.n c.args.log.now c.args.hashes.now c.args.image.now c.loop-next.image c.loop-next.at c.loop-next.used c.loop-next.invariant.running.1) ∙ c.requires.0

-- the step's image, with the hash that is lent for it
image-is : (c : After-apply_at) → c.apply_at.new.image ≡ step_image Tolerant c.args.n c.loop-next.image (edition_at c.args.log.now) c.args.log.now c.loop-next.at (get_or c.args.hashes.now c.loop-next.used 0)
image-is c =
    c.apply_at.ensures.1
    ∙ ap (λ (e : Edition). step_image Tolerant c.args.n c.loop-next.image e c.args.log.now c.loop-next.at c.hash_at-hash.result) c.loop-next.invariant.by
    ∙ ap (step_image Tolerant c.args.n c.loop-next.image (edition_at c.args.log.now) c.args.log.now c.loop-next.at) c.hash_at-hash.ensures

-- and its answer, by the log's own edition
answer-is : (c : After-apply_at) → stepped_said c.apply_at.result ≡ step_answer Tolerant c.args.n c.loop-next.image (edition_at c.args.log.now) c.args.log.now c.loop-next.at
answer-is c = c.apply_at.ensures.0 ∙ ap (λ (e : Edition). step_answer Tolerant c.args.n c.loop-next.image e c.args.log.now c.loop-next.at) c.loop-next.invariant.by

-- the same of a case of it
case-is : (c : After-apply_at) (h s : Stepped) → c.apply_at.result ≡ Ok h → h ≡ s → stepped_said (Ok s) ≡ step_answer Tolerant c.args.n c.loop-next.image (edition_at c.args.log.now) c.args.log.now c.loop-next.at
case-is c h s e f = sym (ap stepped_said e ∙ ap (λ (x : Stepped). stepped_said (Ok x)) f) ∙ answer-is c

-- a clear was applied
after_cleared : (c : After-apply_at) (h : Stepped) (p : ℕ) → c.apply_at.result ≡ Ok h → h ≡ S.Cleared p → (c.loop-next.at + 9 ≤ p) × (p ≤ length c.args.log.now)
    × Running Tolerant c.args.n c.args.log.now c.args.hashes.now c.args.image.now c.apply_at.new.image p c.loop-next.used
after_cleared c h p e f =
    let a = c.args in
    let l = c.loop-next in
    let s = after_clear Tolerant a.n a.log.now a.hashes.now a.image.now l.image l.at l.used l.invariant.running.1 (fits c) p (case-is c h (S.Cleared p) e f) in
    (s.0, s.1, subst (λ (x : List ℕ). Running Tolerant a.n a.log.now a.hashes.now a.image.now x p l.used) (sym (image-is c)) (suc l.invariant.running.0, s.2))

-- an update was applied
after_updated : (c : After-apply_at) (h : Stepped) (p : ℕ) → c.apply_at.result ≡ Ok h → h ≡ S.Updated p → (c.loop-next.at + 9 ≤ p) × (p ≤ length c.args.log.now)
    × Running Tolerant c.args.n c.args.log.now c.args.hashes.now c.args.image.now c.apply_at.new.image p (c.loop-next.used + 1)
after_updated c h p e f =
    let a = c.args in
    let l = c.loop-next in
    let s = after_update Tolerant a.n a.log.now a.hashes.now a.image.now l.image l.at l.used l.invariant.running.1 (fits c) p (case-is c h (S.Updated p) e f) in
    (s.0, s.1, subst (λ (x : List ℕ). Running Tolerant a.n a.log.now a.hashes.now a.image.now x p (l.used + 1)) (sym (image-is c)) (suc l.invariant.running.0, s.2))

pub loop-next-init : goal.loop-next-init
loop-next-init c =
    let a = c.args in
    let first : c.start_size-at.result ≡ start_size (edition_at a.log.now) = c.start_size-at.ensures ∙ ap start_size c.edition_of-edition.ensures in
    record {
      by = c.edition_of-edition.ensures;
      running = subst (λ (p : ℕ). Running Tolerant a.n a.log.now a.hashes.now a.image.now a.image.now p 0) (sym first) (0, run_start Tolerant a.n a.log.now a.hashes.now a.image.now c.requires.1);
    }

pub loop-next-smaller-in-Ok-Cleared : goal.loop-next-smaller-in-Ok-Cleared
loop-next-smaller-in-Ok-Cleared c = let s = after_cleared (goal.at.loop-next-smaller-in-Ok-Cleared c).After-apply_at c.in-Ok-Cleared.field-0 c.in-Ok-Cleared.next c.in-Ok-Cleared.is c.in-Ok-Cleared.field-0-is in omega (arith, s.0, s.1)

pub loop-next-preserved-in-Ok-Cleared : goal.loop-next-preserved-in-Ok-Cleared
loop-next-preserved-in-Ok-Cleared c =
    let s = after_cleared (goal.at.loop-next-preserved-in-Ok-Cleared c).After-apply_at c.in-Ok-Cleared.field-0 c.in-Ok-Cleared.next c.in-Ok-Cleared.is c.in-Ok-Cleared.field-0-is in
    record { by = c.loop-next.invariant.by; running = s.2 }

pub overflow_add-used : goal.overflow_add-used
overflow_add-used c = let s = after_updated (goal.at.overflow_add-used c).After-apply_at c.in-Ok-Updated.field-0 c.in-Ok-Updated.next c.in-Ok-Updated.is c.in-Ok-Updated.field-0-is in omega (arith, s.0, s.1, s.2.1.few)

pub loop-next-smaller : goal.loop-next-smaller
loop-next-smaller c = let s = after_updated (goal.at.loop-next-smaller c).After-apply_at c.in-Ok-Updated.field-0 c.in-Ok-Updated.next c.in-Ok-Updated.is c.in-Ok-Updated.field-0-is in omega (arith, s.0, s.1)

pub loop-next-preserved : goal.loop-next-preserved
loop-next-preserved c =
    let s = after_updated (goal.at.loop-next-preserved c).After-apply_at c.in-Ok-Updated.field-0 c.in-Ok-Updated.next c.in-Ok-Updated.is c.in-Ok-Updated.field-0-is in
    record { by = c.loop-next.invariant.by; running = s.2 }

pub returns-in-Ok-End : goal.returns-in-Ok-End
returns-in-Ok-End c =
    let k = (goal.at.returns-in-Ok-End c).After-apply_at in
    let a = c.args in
    let l = c.loop-next in
    let told = case-is k c.in-Ok-End.field-0 S.End c.in-Ok-End.is c.in-Ok-End.field-0-is in
    image-is k ∙ at_the_end Tolerant a.n a.log.now a.hashes.now a.image.now l.image l.at l.used l.invariant.running.1 (fits k) told

pub returns-in-Err : goal.returns-in-Err
returns-in-Err c =
    let k = (goal.at.returns-in-Err c).After-apply_at in
    let a = c.args in
    let l = c.loop-next in
    absurd (not_refused Tolerant a.n a.log.now a.hashes.now a.image.now l.image l.at l.used l.invariant.running.1 (fits k) (number_of c.in-Err.field-0) (sym (ap stepped_said c.in-Err.is) ∙ answer-is k))
