-- k calls of `apply_entry` make replay of the first k entries, so a stop inside the next leaves a mix of two such images,
-- and demand 3 holds of it. Assumes nothing.
use mathlib.Core.Path.{◌≡◌, sym, ap, ◌∙◌, subst}
use mathlib.Core.Bool.{true, cond}
use mathlib.Core.List.{List}
use Prim.Native.Nat.{ℕ, zero, suc, ◌≤◌}
use lib.ListN.{length, take}
use lib.Seq.{take_all}
use Rattle.answers.specs.Answers.{given, accepted}
use Rattle.ht_file.specs.Places.{image_fits}
use Rattle.wal.specs.Log.{clear}
use Rattle.wal.specs.Reader.{edition_at, Next, next, next_by}
use Rattle.wal.specs.declared.AfterEnd.{AfterEnd}
use Rattle.wal.specs.declared.Edition.{Edition}
use Rattle.recover.specs.declared.Expected.{Expected}
use Rattle.recover.specs.Places.{Step, entry_gives, replayed}
use Rattle.recover.specs.Replay.{applied, step_answer, step_by, step_image, replay_answer, replay_image, steps_of, Stopped, untouched, part_applied, mixed}
use Rattle.recover.specs.Calls.{Stand, calls, Cut, uncut, cut_inside}
use Rattle.recover.proofs.OneImage.{applied_image, stops_do_no_harm}
use Rattle.recover.proofs.Replays.{applied_told}
use Rattle.recover.proofs.Runs.{RunState, run_start, run_long, run_call, call_accepted}

-- a clear's call looks at no hash: whichever is lent, it leaves the same image
pub clear_any_hash : (rule : AfterEnd) (n : ℕ) (image : List ℕ) (ed : Edition) (log : List ℕ) (at h k b p : ℕ) → next_by rule ed log at ≡ next (clear b) p → step_image rule n image ed log at h ≡ step_image rule n image ed log at k
unfolding step_image entry_gives
clear_any_hash rule n image ed log at h k b p e =
    ap (λ (x : Next). cond (accepted (step_answer rule n image ed log at)) (step_by n x h image) image) e
    ∙ sym (ap (λ (x : Next). cond (accepted (step_answer rule n image ed log at)) (step_by n x k image) image) e)

module _ (rule : AfterEnd) (n : ℕ) (table log : List ℕ) (want : Expected) (hashes : List ℕ) (ok : replay_answer rule n table log want hashes ≡ given applied) where
  abbrev at_call : ℕ → Stand
  at_call k = calls rule n log hashes table k

  -- the image stays as long as the table
  still_fits : (w : Stand) {k : ℕ} → RunState rule n log hashes table w.image w.at w.used k → image_fits n (length w.image) ≡ true
  still_fits w st = ap (image_fits n) (run_long rule n log hashes table w.image w.at w.used st) ∙ (applied_told rule n (length table) log want (length hashes) ok).0

  calls_stand : (k : ℕ) → RunState rule n log hashes table (at_call k).image (at_call k).at (at_call k).used k
  unfolding calls
  calls_stand zero = run_start rule n log hashes table (applied_told rule n (length table) log want (length hashes) ok).1
  calls_stand (suc k) =
      let w = at_call k in
      let st = calls_stand k in
      run_call rule n log hashes table w.image w.at w.used st (still_fits w st)

  -- "each entry is applied by one step .. Show it after any number of entries"
  pub calls_make : (k : ℕ) → (calls rule n log hashes table k).image ≡ replayed n (take k (steps_of log hashes)) table
  calls_make k = (calls_stand k).made

  -- no call is refused
  pub calls_accepted : (k : ℕ) → accepted (step_answer rule n (calls rule n log hashes table k).image (edition_at log) log (calls rule n log hashes table k).at) ≡ true
  calls_accepted k =
      let w = at_call k in
      let st = calls_stand k in
      call_accepted rule n log hashes table w.image w.at w.used st (still_fits w st)

  -- as many calls as there are entries, or more, make the image that replay makes
  pub calls_end : (k : ℕ) → length (steps_of log hashes) ≤ k → (calls rule n log hashes table k).image ≡ replay_image rule n table log want hashes
  calls_end k h =
      calls_make k ∙ ap (λ (ss : List Step). replayed n ss table) (take_all k (steps_of log hashes) h) ∙ sym (applied_image rule n table log want hashes ok)

module _ (rule : AfterEnd) (n : ℕ) (table log : List ℕ) (want : Expected) (hashes : List ℕ) (ok : replay_answer rule n table log want hashes ≡ given applied) where
  -- a stop inside a call, after any number of calls from an image that stops left, leaves such an image again
  pub cut_stopped : {image : List ℕ} → Cut rule n log hashes table image → Stopped n (steps_of log hashes) table image
  cut_stopped uncut = untouched
  cut_stopped (cut_inside start image k c m) =
      let s = cut_stopped c in
      mixed (calls rule n log hashes start k).image (calls rule n log hashes start (suc k)).image image (after start s k) (after start s (suc k)) m
    where
      after : (start : List ℕ) → Stopped n (steps_of log hashes) table start → (k : ℕ) → Stopped n (steps_of log hashes) table (calls rule n log hashes start k).image
      after start s k = subst (Stopped n (steps_of log hashes) table) (sym (calls_make rule n start log want hashes (stops_do_no_harm rule n table log want hashes ok s).0 k)) (part_applied start k s)

  -- "So stops at any byte, any number of times, do no harm", of the calls of `apply_entry`
  pub cuts_do_no_harm : {image : List ℕ} → Cut rule n log hashes table image
      → (replay_answer rule n image log want hashes ≡ given applied) × (replay_image rule n image log want hashes ≡ replay_image rule n table log want hashes)
  cuts_do_no_harm c = stops_do_no_harm rule n table log want hashes ok (cut_stopped c)
