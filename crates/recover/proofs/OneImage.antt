-- Demand 3 of `recover`, whose promise is `replay_answer` and `replay_image`: the answer looks at the image's length alone,
-- and at a named place what stood there does not matter. Assumes nothing.
use mathlib.Core.Path.{◌≡◌, sym, ap, ◌∙◌, subst}
use mathlib.Core.Bool.{true}
use mathlib.Core.List.{List}
use Prim.Native.Nat.{ℕ, ◌<◌}
use lib.ListN.{length, get_or}
use Rattle.answers.specs.Answers.{Answer, given}
use Rattle.wal.specs.declared.AfterEnd.{AfterEnd}
use Rattle.recover.specs.declared.Expected.{Expected}
use Rattle.recover.specs.Places.{named_in, replayed}
use Rattle.recover.specs.Replay.{Did, applied, replay_answer, replay_image, image_by, steps_of, OnlyNamed, LastGiven, Stopped}
use Rattle.recover.proofs.Acceptance.{answer_by-length}
use Rattle.recover.proofs.Demand3.{value_last, replayed_at, replayed_only, same_end, stopped_only}

-- an accepted log is applied to the image
pub applied_image : (rule : AfterEnd) (n : ℕ) (image log : List ℕ) (want : Expected) (hashes : List ℕ) → replay_answer rule n image log want hashes ≡ given applied → replay_image rule n image log want hashes ≡ replayed n (steps_of log hashes) image
applied_image rule n image log want hashes ok = ap (λ (a : Answer Did). image_by a image (replayed n (steps_of log hashes) image)) ok

-- "Take a log accepted for a table"
module _ (rule : AfterEnd) (n : ℕ) (table log : List ℕ) (want : Expected) (hashes : List ℕ) (ok : replay_answer rule n table log want hashes ≡ given applied) where
  -- "and an image that differs from that table only in places the log names. Replay from the start, with the same sync
  -- number and hashes, ends in one and the same image for both": the log is accepted for the image too
  pub demand_3 : (image : List ℕ) → OnlyNamed n (steps_of log hashes) table image
      → (replay_answer rule n image log want hashes ≡ given applied) × (replay_image rule n image log want hashes ≡ replay_image rule n table log want hashes)
  demand_3 image d =
      let again : replay_answer rule n image log want hashes ≡ given applied = answer_by-length rule n image table log want hashes d.long ∙ ok in (
        again,
        applied_image rule n image log want hashes again ∙ same_end n (steps_of log hashes) table image d ∙ sym (applied_image rule n table log want hashes ok),
      )

  -- "each named place has the last value that the log gives it"
  pub end_named : (j : ℕ) → j < length table → named_in n (steps_of log hashes) j ≡ true → LastGiven n (steps_of log hashes) j (get_or (replay_image rule n table log want hashes) j 0)
  end_named j h e =
      subst (λ (v : ℕ). LastGiven n (steps_of log hashes) j v)
      (sym (ap (λ (l : List ℕ). get_or l j 0) (applied_image rule n table log want hashes ok) ∙ replayed_at n (steps_of log hashes) table j h)) (value_last n j (steps_of log hashes) (get_or table j 0) e)

  -- "each other byte is the table's"
  pub end_others : OnlyNamed n (steps_of log hashes) table (replay_image rule n table log want hashes)
  end_others = subst (OnlyNamed n (steps_of log hashes) table) (sym (applied_image rule n table log want hashes ok)) (replayed_only n (steps_of log hashes) table)

  -- "So stops at any byte, any number of times, do no harm"
  pub stops_do_no_harm : {image : List ℕ} → Stopped n (steps_of log hashes) table image
      → (replay_answer rule n image log want hashes ≡ given applied) × (replay_image rule n image log want hashes ≡ replay_image rule n table log want hashes)
  stops_do_no_harm {image} s = demand_3 image (stopped_only n (steps_of log hashes) table s)
