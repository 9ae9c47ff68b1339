-- 01, 'Growth': what is left to do of a growth that was stopped, by the counts that its marker, the metadata and the table's file have.
-- Assumes nothing.
use Rattle.std.specs.Prelude.{Result, Ok, Err, cond, ◌&&◌, ℕ, leb, eqb}
use Rattle.answers.specs.Answers.{Answer, given, refused}
use Rattle.answers.specs.Refusals.{number_of}
use Rattle.ht_file.specs.Places.{image_length, within_limit, if_table}
use Rattle.answers.specs.declared.Refusal.{Refusal}
use Rattle.rehash.specs.declared.Decision.{Decision}
use Rattle.rehash.specs.declared.Decision.TheVariants as decision

pub data Left : Type 0 where
  tidy update_meta_then_tidy : Left

-- "Pending decision, by meta count and file length: new, new: tidy; old, new: update meta, then tidy; old, old: tidy. Old 0 is allowed here"
abbrev pub decide : ℕ → ℕ → ℕ → ℕ → Answer Left
decide old new meta len =
    cond (eqb meta new && eqb len (image_length new)) (given tidy)
    (cond (eqb meta old && eqb len (image_length new)) (given update_meta_then_tidy)
    (cond (eqb meta old && eqb len (image_length old)) (given tidy) (refused 18)))

-- "Pending: 1 for any of the three counts above the limit, 17, 18"
abbrev pub pending_answer : ℕ → ℕ → ℕ → ℕ → Answer Left
pending_answer old new meta len = if_table (within_limit old && within_limit new && within_limit meta) (cond (leb new old) (refused 17) (decide old new meta len))

abbrev pub decision_said : Result Decision Refusal → Answer Left
decision_said (Ok decision.Tidy) = given tidy
decision_said (Ok decision.UpdateMetaThenTidy) = given update_meta_then_tidy
decision_said (Err r) = refused (number_of r)
