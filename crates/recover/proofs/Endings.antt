-- 02, W-208: replay that wants zeros after end and tolerant replay agree on every log after whose end zeros stand; where they differ the
-- answer of the first is 27. So a log that the first accepts the second accepts too, and each does the same to the image. Assumes nothing.
use mathlib.Core.Path.{◌≡◌, refl, sym, ap, ap₂, ◌∙◌}
use mathlib.Core.Logic.{◌⊎◌, inl, inr, ⊎_elim}
use mathlib.Core.Bool.{Bool, true, false, cond}
use mathlib.Core.List.{List}
use Prim.Native.Nat.{ℕ, ◌+◌, ◌≤◌}
use native.Mathlib.Omega.{arith}
use lib.Dec.{eqb}
use lib.ListN.{length, get_or}
use Rattle.answers.specs.Answers.{Answer, given, refused, accepted}
use Rattle.ht_file.specs.Places.{image_fits, if_table}
use Rattle.wal.specs.Log.{mark_size, start_size}
use Rattle.wal.specs.Reader.{edition_at, start_of, Next, ended, stopped, next_at, wanted, next_by, Reading, read_by, read_log}
use Rattle.wal.specs.declared.AfterEnd.{AfterEnd}
use Rattle.wal.specs.declared.AfterEnd.TheVariants.{Zeros, Tolerant}
use Rattle.wal.specs.declared.Edition.{Edition}
use Rattle.wal.proofs.Endings.{same_entries, log_agrees, log_differs, next_agrees, next_differs, used_stops, ends_in_zeros}
use Rattle.recover.specs.declared.Expected.{Expected}
use Rattle.recover.specs.Replay.{Did, nothing, stale, applied, all_inside, updates_in, after_entries, hashes_fit, check_of, check_answer, of_store, by_sync, after_start, replay_tests, replay_answer, replay_image, image_by, steps_of, by_next, step_answer, step_by, step_image}
use Rattle.recover.specs.Places.{replayed}
use Rattle.recover.proofs.Acceptance.{refusal_leaves}
use Rattle.recover.proofs.Replays.{applied_told}
use Rattle.recover.proofs.Runs.{checked}

-- "Tolerant calls with the former rule": replay, the step and its image as they stood before there was a rule
pub tolerant_replay : (n : ℕ) (image log : List ℕ) (want : Expected) (hashes : List ℕ)
    → replay_answer Tolerant n image log want hashes
    ≡ if_table (image_fits n (length image))
    (cond (eqb (length log) 0) (given nothing) (after_start (start_of log) log want (check_of n (length hashes) (read_by (next_at (edition_at log) log) (length log) (start_size (edition_at log))))))
unfolding replay_tests check_answer
tolerant_replay n image log want hashes = refl

pub tolerant_step : (n : ℕ) (image : List ℕ) (ed : Edition) (log : List ℕ) (at h : ℕ)
    → (step_answer Tolerant n image ed log at ≡ if_table (image_fits n (length image)) (by_next n (next_at ed log at)))
    × (step_image Tolerant n image ed log at h ≡ cond (accepted (step_answer Tolerant n image ed log at)) (step_by n (next_at ed log at) h image) image)
unfolding step_answer step_image
tolerant_step n image ed log at h = (refl, refl)

-- ---- the check of a log
module _ (rule : AfterEnd) (n : ℕ) (log : List ℕ) (hashes : ℕ) where
  -- the two agree, or the reading stops with 27: then that is the answer, unless an entry before is outside the table, for both
  check_differs : (check_answer rule n log hashes ≡ check_answer Tolerant n log hashes) ⊎ (check_answer rule n log hashes ≡ refused 27)
  unfolding check_answer
  check_differs = ⊎_elim (λ e. inl (ap (check_of n hashes) e)) (λ d. stopped_27 d.1) (log_differs rule log)
    where
      es_same : (read_log rule log).entries ≡ (read_log Tolerant log).entries
      es_same = same_entries rule log

      stopped_27 : (read_log rule log).stop ≡ refused 27 → (check_of n hashes (read_log rule log) ≡ check_of n hashes (read_log Tolerant log)) ⊎ (check_of n hashes (read_log rule log) ≡ refused 27)
      stopped_27 h = go (all_inside n (read_log rule log).entries) refl
        where
          go : (b : Bool) → all_inside n (read_log rule log).entries ≡ b → (check_of n hashes (read_log rule log) ≡ check_of n hashes (read_log Tolerant log)) ⊎ (check_of n hashes (read_log rule log) ≡ refused 27)
          go true e = inr (ap₂ (λ (b : Bool) (a : Answer (Unit {0})). cond b (after_entries a (hashes_fit hashes (updates_in (read_log rule log).entries))) (refused 9)) e h)
          go false e =
              inl (ap (λ (b : Bool). cond b (after_entries (read_log rule log).stop (hashes_fit hashes (updates_in (read_log rule log).entries))) (refused 9)) e
              ∙ sym (ap (λ (b : Bool). cond b (after_entries (read_log Tolerant log).stop (hashes_fit hashes (updates_in (read_log Tolerant log).entries))) (refused 9)) (sym (ap (all_inside n) es_same) ∙ e)))

  -- what is accepted with zeros wanted is accepted by the tolerant check
  pub check_tolerant : check_answer rule n log hashes ≡ given tt → check_answer Tolerant n log hashes ≡ given tt
  check_tolerant ok = ⊎_elim (λ e. sym e ∙ ok) (λ e. let z : refused 27 ≡ given tt = sym e ∙ ok in let y : ◌≡◌ {A = ℕ} 0 1 = cc in absurd (omega arith)) check_differs

-- ---- replay
module _ (rule : AfterEnd) (n : ℕ) (image log : List ℕ) (want : Expected) (hashes : List ℕ) where
  -- by what the check of the log answers
  abbrev by_check : Answer (Unit {0}) → Answer Did
  by_check c = cond (image_fits n (length image)) (cond (eqb (length log) 0) (given nothing) (after_start (start_of log) log want c)) (refused 1)

  -- "default and tolerant agree on every log whose bytes after end are zero"
  pub replay_agrees : wanted rule log ((read_log Tolerant log).at + mark_size (edition_at log)) ≡ true → replay_answer rule n image log want hashes ≡ replay_answer Tolerant n image log want hashes
  unfolding replay_tests check_answer
  replay_agrees e = ap (λ (r : Reading). by_check (check_of n (length hashes) r)) (log_agrees rule log e)

  -- "where they differ the default's answer is 27"
  pub replay_differs : (replay_answer rule n image log want hashes ≡ replay_answer Tolerant n image log want hashes) ⊎ (replay_answer rule n image log want hashes ≡ refused 27)
  unfolding replay_tests
  replay_differs = ⊎_elim (λ e. inl (ap by_check e)) (λ e. go e (image_fits n (length image)) (eqb (length log) 0) (start_of log)) (check_differs rule n log (length hashes))
    where
      -- a log with 27 at its end is answered so, or before by the same test
      started : (s : ℕ) (o t : Bool) → check_answer rule n log (length hashes) ≡ refused 27
          → let by : Answer (Unit {0}) → Answer Did = λ c. cond o (by_sync t c) (refused 26) in (by (check_answer rule n log (length hashes)) ≡ by (check_answer Tolerant n log (length hashes))) ⊎ (by (check_answer rule n log (length hashes)) ≡ refused 27)
      started s false t e = inl refl
      started s true true e = inr (ap (by_sync true) e)
      started s true false e = inl (stale_both (check_answer rule n log (length hashes)) ∙ sym (stale_both (check_answer Tolerant n log (length hashes))))
        where
          stale_both : (c : Answer (Unit {0})) → by_sync false c ≡ given stale
          stale_both (given u) = refl
          stale_both (refused m) = refl

      go : check_answer rule n log (length hashes) ≡ refused 27 → (f z : Bool) (s : Answer ℕ)
          → let by : Answer (Unit {0}) → Answer Did = λ c. cond f (cond z (given nothing) (after_start s log want c)) (refused 1) in (by (check_answer rule n log (length hashes)) ≡ by (check_answer Tolerant n log (length hashes))) ⊎ (by (check_answer rule n log (length hashes)) ≡ refused 27)
      go e false z s = inl refl
      go e true true s = inl refl
      go e true false (refused k) = inl refl
      go e true false (given s) = started s (of_store log want.seed) (eqb s want.sync) e

  -- what is accepted with zeros wanted is accepted by tolerant replay, and leaves the same image
  pub accepted_by_both : replay_answer rule n image log want hashes ≡ given applied
      → (replay_answer Tolerant n image log want hashes ≡ given applied) × (replay_image rule n image log want hashes ≡ replay_image Tolerant n image log want hashes)
  accepted_by_both ok =
      let too : replay_answer Tolerant n image log want hashes ≡ given applied = ⊎_elim (λ e. sym e ∙ ok) (λ e. let z : refused 27 ≡ given applied = sym e ∙ ok in let y : ◌≡◌ {A = ℕ} 0 1 = cc in absurd (omega arith)) replay_differs in
      (too, ap (λ (a : Answer Did). image_by a image (replayed n (steps_of log hashes) image)) (ok ∙ sym too))

-- "A log had been written over a longer one, and old entries stood after end": a log that was accepted, with a byte after end that is not zero, is
-- refused with 27, and the image stays
pub used_refused : (n : ℕ) (image log : List ℕ) (want : Expected) (hashes : List ℕ) → replay_answer Tolerant n image log want hashes ≡ given applied
    → (j : ℕ) → (read_log Tolerant log).at + mark_size (edition_at log) ≤ j → (get_or log j 0 ≡ 0 → ⊥)
    → (replay_answer Zeros n image log want hashes ≡ refused 27) × (replay_image Zeros n image log want hashes ≡ image)
used_refused n image log want hashes ok j h used = (answer_27, refusal_leaves Zeros n image log want hashes 27 answer_27)
  where
    whole : (read_log Tolerant log).stop ≡ given tt
    whole = (checked Tolerant n log (length hashes) (applied_told Tolerant n (length image) log want (length hashes) ok).1).1

    -- it is not accepted: then zeros would follow
    not_applied : replay_answer Zeros n image log want hashes ≡ given applied → ⊥
    not_applied yes-applied =
        let z : refused 27 ≡ given tt = sym (used_stops log whole j h used) ∙ (checked Zeros n log (length hashes) (applied_told Zeros n (length image) log want (length hashes) yes-applied).1).1 in
        let y : ◌≡◌ {A = ℕ} 0 1 = cc in omega arith

    answer_27 : replay_answer Zeros n image log want hashes ≡ refused 27
    answer_27 = ⊎_elim (λ e. absurd (not_applied (e ∙ ok))) (λ e. e) (replay_differs Zeros n image log want hashes)

-- so an accepted log has nothing but zeros after its end
pub accepted_ends_in_zeros : (n : ℕ) (image log : List ℕ) (want : Expected) (hashes : List ℕ) → replay_answer Zeros n image log want hashes ≡ given applied
    → (j : ℕ) → (read_log Zeros log).at + mark_size (edition_at log) ≤ j → get_or log j 0 ≡ 0
accepted_ends_in_zeros n image log want hashes ok = ends_in_zeros log (checked Zeros n log (length hashes) (applied_told Zeros n (length image) log want (length hashes) ok).1).1

-- ---- one step
module _ (rule : AfterEnd) (n : ℕ) (image : List ℕ) (ed : Edition) (log : List ℕ) (at : ℕ) where
  pub step_agrees : wanted rule log (at + mark_size ed) ≡ true → step_answer rule n image ed log at ≡ step_answer Tolerant n image ed log at
  unfolding step_answer
  step_agrees e = ap (λ x. cond (image_fits n (length image)) (by_next n x) (refused 1)) (next_agrees rule ed log at e)

  pub step_differs : (step_answer rule n image ed log at ≡ step_answer Tolerant n image ed log at) ⊎ (step_answer rule n image ed log at ≡ refused 27)
  unfolding step_answer
  step_differs = ⊎_elim (λ e. inl (ap (λ x. cond (image_fits n (length image)) (by_next n x) (refused 1)) e)) (λ d. go (image_fits n (length image)) d.1) (next_differs rule ed log at)
    where
      go : (f : Bool) → next_by rule ed log at ≡ stopped 27
          → (cond f (by_next n (next_by rule ed log at)) (refused 1) ≡ cond f (by_next n (next_by Tolerant ed log at)) (refused 1)) ⊎ (cond f (by_next n (next_by rule ed log at)) (refused 1) ≡ refused 27)
      go true e = inr (ap (by_next n) e)
      go false e = inl refl

  -- its image does not depend on what follows end
  pub step_image_same : (h : ℕ) → step_image rule n image ed log at h ≡ step_image Tolerant n image ed log at h
  unfolding step_image step_answer
  step_image_same h = ⊎_elim (λ e. ap shown e) (λ d. ap shown d.1 ∙ go (image_fits n (length image)) ∙ sym (ap shown d.0)) (next_differs rule ed log at)
    where
      shown : Next → List ℕ
      shown x = cond (accepted (cond (image_fits n (length image)) (by_next n x) (refused 1))) (step_by n x h image) image

      go : (f : Bool) → cond (accepted (cond f (by_next n (stopped 27)) (refused 1))) image image ≡ cond (accepted (cond f (by_next n ended) (refused 1))) image image
      go true = refl
      go false = refl
