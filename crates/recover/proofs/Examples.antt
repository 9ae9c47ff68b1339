-- 01, 'Replay' and 'Checked by hand': what replay and its step answer, each answer and each refusal, on literals; a
-- clear replayed under its own sync number and under another, and a power cut that demand 3 speaks of, by the laws of
-- replay. Assumes nothing.
use mathlib.Core.Path.{◌≡◌, refl, sym, ap, ap₂, ◌∙◌}
use mathlib.Core.Bool.{Bool, true, cond, ◌&&◌}
use mathlib.Core.Logic.{◌⊎◌, inl, inr}
use mathlib.Core.List.{List, [], ◌∷◌, ◌++◌, map}
use Prim.Native.Nat.{ℕ, zero, suc, ◌+◌, ◌≤◌, ◌<◌, ◌-◌, ◌^◌}
use native.Mathlib.Omega.{arith}
use lib.Dec.{ltb}
use lib.ListN.{length, get_or, take, set, replicate, length-replicate, get_or-replicate}
use borrow.Author.Tests.{ltb-true}
use Rattle.std.specs.Prelude.{Ok, Err}
use Rattle.answers.specs.Answers.{Answer, given, refused}
use Rattle.answers.specs.declared.Refusal.TheVariants.{LogCut, BucketOutside}
use Rattle.blocks.specs.Blocks.{block, flat, same_bytes, all_zero}
use Rattle.ht_file.specs.Places.{image_fits}
use Rattle.ht_file.proofs.Laws.{both_hold}
use Rattle.page_diff.specs.Diff.{digit, marked, slots_below}
use Rattle.wal.specs.Log.{Entry, clear, update, edition_one, record_of, records_of}
use Rattle.wal.specs.Reader.{Reading, start_in, seed_of, next_at, read_by, read_log}
use Rattle.wal.specs.Run.{WideStart, log_of}
use Rattle.wal.specs.declared.AfterEnd.{AfterEnd}
use Rattle.wal.specs.declared.AfterEnd.TheVariants.{Zeros, Tolerant}
use Rattle.wal.specs.declared.Edition.TheVariants.{One}
use Rattle.wal.proofs.Examples.{seed, log_two_lem}
use Rattle.wal.proofs.RoundTrip.{AllWellFormed, none, more, log-length, start_back, entries_back}
use Rattle.recover.specs.Places.{Step, with_hashes, names, gives, replayed, value_at, named_in, entry_names, entry_gives}
use Rattle.recover.specs.Replay.{Did, nothing, stale, applied, all_inside, updates_in, check_answer, replay_tests, replay_answer, replay_image, steps_of, Went, cleared, updated, at_end, step_answer, step_image, stepped_said, recovered_said, Own, OnlyNamed}
use Rattle.recover.specs.Calls.{calls, Cut, uncut, cut_inside}
use Rattle.recover.proofs.Acceptance.{replay_accepts, replay_applies, stale_leaves}
use Rattle.recover.proofs.Cuts.{calls_make, cut_stopped}
use Rattle.recover.proofs.Demand3.{replayed_at, stepped_at, stopped_only}
use Rattle.recover.proofs.OneImage.{applied_image, demand_3}
use Rattle.recover.proofs.Replays.{other_sync, replay_started}
use Rattle.recover.proofs.Steps.{step_taken}
use Rattle.recover.specs.declared.Expected.{Expected}
use Rattle.recover.specs.declared.Stepped.TheVariants as S
use Rattle.recover.specs.declared.Recovered.TheVariants as R

-- what replay expects: a sync number, and the seed of the store in `log_two_lem`
abbrev under : ℕ → Expected
under sync = record { sync = sync; seed = seed }

-- a page of log of sync 7 that goes on with these bytes, and ends in zeros
abbrev page : List ℕ → List ℕ
page bs = 1 ∷ 7 ∷ 0 ∷ 0 ∷ 0 ∷ (bs ++ replicate (4091 - length bs) 0)

-- a clear of a bucket and the end; an update of bucket 0 with no slot and the end; the beginning of an update whose
-- diff's bytes are these
abbrev a_clear : ℕ → List ℕ
a_clear b = 3 ∷ b ∷ 0 ∷ 0 ∷ 0 ∷ 0 ∷ 0 ∷ 0 ∷ 0 ∷ 2 ∷ []

abbrev an_update : List ℕ
an_update = 4 ∷ (replicate 64 0 ++ (2 ∷ []))

abbrev a_diff : List ℕ → List ℕ
a_diff bs = 4 ∷ (replicate 32 0 ++ bs)

-- "Replay: 1, nothing, 5, 7, stale, then the first bad entry (in an update: 6 up to the diff, 4, 6, 9), last the hash
-- count 2", one bucket
abbrev replay : List ℕ → ℕ → List ℕ → Answer Did
replay log sync hashes = replay_answer Zeros 1 (replicate 8192 0) log (under sync) hashes

pub answers : (replay_answer Zeros 0 [] [] (under 7) [] ∷ replay_answer Zeros 1 (replicate 8191 0) [] (under 7) [] ∷ replay [] 7 [] ∷ replay (replicate 4095 1) 7 [] ∷ replay (replicate 4096 2) 7 [] ∷ replay (page (9 ∷ [])) 8 [] ∷ [])
    ∷ (replay (page (9 ∷ [])) 7 [] ∷ replay (page (a_diff (replicate 15 0 ++ (0x40 ∷ [])))) 7 [] ∷ replay (page (a_diff (replicate 15 0xFF ++ (0x3F ∷ [])))) 7 [] ∷ replay (page (a_clear 1)) 7 [] ∷ [])
    ∷ (replay (page (a_clear 0)) 7 (0 ∷ []) ∷ replay (page an_update) 7 [] ∷ replay (page an_update) 7 (0 ∷ []) ∷ replay (page (a_clear 0)) 7 [] ∷ replay (page (2 ∷ [])) 7 [] ∷ []) ∷ []
    ≡ (refused 1 ∷ refused 1 ∷ given nothing ∷ refused 5 ∷ refused 7 ∷ given stale ∷ []) ∷ (refused 8 ∷ refused 4 ∷ refused 6 ∷ refused 9 ∷ [])
    ∷ (refused 2 ∷ refused 2 ∷ given applied ∷ given applied ∷ given applied ∷ []) ∷ []
unfolding replay_tests start_in check_answer all_inside updates_in read_by next_at block marked slots_below all_zero
answers = refl

-- the step: 1, 6, 8, 4, 9; a clear, an update and the end
abbrev step_at : List ℕ → ℕ → Answer Went
step_at log at = step_answer Zeros 1 (replicate 8192 0) One log at

pub steps : (step_answer Zeros 1 (replicate 8191 0) One (page (a_clear 0)) 5 ∷ step_at (page (a_clear 0)) 4096 ∷ step_at (page (a_clear 0)) 0 ∷ step_at (page (a_diff (replicate 15 0 ++ (0x80 ∷ [])))) 5 ∷ step_at (page (a_clear 1)) 5 ∷ [])
    ∷ (step_at (page (a_clear 0)) 5 ∷ step_at (page an_update) 5 ∷ step_at (page (a_clear 0)) 14 ∷ []) ∷ []
    ≡ (refused 1 ∷ refused 6 ∷ refused 8 ∷ refused 4 ∷ refused 9 ∷ []) ∷ (given (cleared 14) ∷ given (updated 70) ∷ given at_end ∷ []) ∷ []
unfolding step_answer next_at block marked slots_below all_zero
steps = refl

-- each case of the code's answers
pub said : (map recovered_said (Ok R.Nothing ∷ Ok R.Stale ∷ Ok R.Applied ∷ Err BucketOutside ∷ []) ≡ given nothing ∷ given stale ∷ given applied ∷ refused 9 ∷ [])
    × (map stepped_said (Ok (S.Cleared 14) ∷ Ok (S.Updated 70) ∷ Ok S.End ∷ Err LogCut ∷ []) ≡ given (cleared 14) ∷ given (updated 70) ∷ given at_end ∷ refused 6 ∷ [])
said = (refl, refl)

-- the log's one entry
abbrev entries : List Entry
entries = clear 0 ∷ []

-- a start of edition one, and what replay expects of its log
wide : WideStart (edition_one 7)
wide = record { number = omega arith; seed_long = refl }

own : Own (edition_one 7) (under 7)
own = record { same_sync = refl; same_store = λ e. let z : ◌≡◌ {A = ℕ} 0 1 = cc in absurd (omega arith) }

well : AllWellFormed entries
well = more {e = clear 0} (omega arith) none

inside : all_inside 1 entries ≡ true
unfolding all_inside
inside = refl

no_update : 0 ≡ updates_in entries
unfolding updates_in
no_update = refl

-- what replay answers on a table under a sync number, and the tag it leaves
abbrev pub cleared_under : List ℕ → ℕ → Answer Did × ℕ
cleared_under table sync = (replay_answer Zeros 1 table (log_of (edition_one 7) (clear 0 ∷ [])) (under sync) [], get_or (replay_image Zeros 1 table (log_of (edition_one 7) (clear 0 ∷ [])) (under sync) []) 0 0)

-- for any table of one bucket whose tag is 0
module _ (table : List ℕ) (long : length table ≡ 8192) (empty : get_or table 0 0 ≡ 0) where
  fits : image_fits 1 (length table) ≡ true
  fits = ap (image_fits 1) long

  tag_written_lem : value_at 1 (with_hashes entries []) (get_or table 0 0) 0 ≡ 0x7F
  unfolding with_hashes value_at named_in entry_names entry_gives
  tag_written_lem = refl

  under_7 : cleared_under table 7 ≡ (given applied, 0x7F)
  under_7 =
      ap₂ (λ (a : Answer Did) (v : ℕ). (a, v)) (replay_accepts Zeros 1 (edition_one 7) entries wide well inside (under 7) own table [] fits no_update)
      (ap (λ (l : List ℕ). get_or l 0 0) (replay_applies Zeros 1 (edition_one 7) entries wide well inside (under 7) own table [] fits no_update) ∙ replayed_at 1 (with_hashes entries []) table 0 (omega arith) ∙ tag_written_lem)

  under_8 : cleared_under table 8 ≡ (given stale, 0)
  under_8 =
      let log : List ℕ = log_of (edition_one 7) entries in
      let said : given stale ≡ replay_answer Zeros 1 table log (under 8) [] =
      other_sync Zeros 1 log 7 (under 8) 0 refl (λ z. omega arith)
      ∙ replay_started Zeros 1 (length table) log (under 8) 0 fits (λ z. omega (arith, log-length (edition_one 7) entries wide)) (given 7) (start_back (edition_one 7) entries wide) in
      ap₂ (λ (a : Answer Did) (v : ℕ). (a, v)) (sym said) (ap (λ (l : List ℕ). get_or l 0 0) (stale_leaves Zeros 1 table log (under 8) [] (sym said)) ∙ empty)

  both : map (cleared_under table) (7 ∷ 8 ∷ []) ≡ (given applied, 0x7F) ∷ (given stale, 0) ∷ []
  both = ap₂ (λ (a b : Answer Did × ℕ). a ∷ b ∷ []) under_7 under_8

-- "n=1, tag 0, log with sync 7 and clear 0: 0x7F under 7, stale under 8"
pub replays : map (cleared_under (replicate 8192 0)) (7 ∷ 8 ∷ []) ≡ (given applied, 0x7F) ∷ (given stale, 0) ∷ []
replays = both (replicate 8192 0) (length-replicate {A = ℕ} 8192 0) (get_or-replicate {A = ℕ} 8192 0 0 0 (omega arith))

-- ---- a power cut, on a table of zeros: bucket 0 is updated, with slot 0 alone marked, and then cleared; of all this only
-- the update's tag is written when the power goes
abbrev pub zeros : List ℕ
zeros = replicate 8192 0

abbrev pub cut_nodes : List (List ℕ)
cut_nodes = replicate 32 5 ∷ []

abbrev pub cut_entries : List Entry
cut_entries = update (replicate 32 1) (1 ∷ 0 ∷ []) cut_nodes (replicate 8 2) 0 ∷ clear 0 ∷ []

abbrev pub cut_log : List ℕ
cut_log = log_of (edition_one 7) cut_entries

abbrev pub cut_image : List ℕ
cut_image = 0x80 ∷ replicate 8191 0

cut_well : AllWellFormed cut_entries
unfolding slots_below marked digit
cut_well =
    more
    {e = update (replicate 32 1) (1 ∷ 0 ∷ []) cut_nodes (replicate 8 2) 0}
    (record {
      wide = record { change = record { id_long = refl; two_words = refl; low_word = omega arith; high_word = omega arith }; elided_long = refl; bucket = omega arith };
      plain = refl;
      counted = refl;
      rows = rows;
    })
    (more {e = clear 0} (omega arith) none)
  where
    rows : (i : ℕ) → i < length cut_nodes → length (get_or cut_nodes i []) ≡ 32
    rows zero h = refl
    rows (suc i) h = absurd (omega arith)

cut_steps : steps_of cut_log (0 ∷ []) ≡ with_hashes cut_entries (0 ∷ [])
cut_steps = ap (λ (r : Reading). with_hashes r.entries (0 ∷ [])) (entries_back (edition_one 7) cut_entries wide Tolerant cut_well)

long : length zeros ≡ 8192
long = length-replicate {A = ℕ} 8192 0

-- the log is accepted for the table
pub cut_accepted : replay_answer Zeros 1 zeros cut_log (under 7) (0 ∷ []) ≡ given applied
unfolding all_inside updates_in
cut_accepted = replay_accepts Zeros 1 (edition_one 7) cut_entries wide cut_well refl (under 7) own zeros (0 ∷ []) (ap (image_fits 1) long) refl

-- the tag that the update's call writes
cut_tag : get_or (calls Zeros 1 cut_log (0 ∷ []) zeros 1).image 0 0 ≡ 0x80
unfolding with_hashes value_at named_in entry_names entry_gives
cut_tag =
    ap (λ (l : List ℕ). get_or l 0 0) (calls_make Zeros 1 zeros cut_log (under 7) (0 ∷ []) cut_accepted 1) ∙ ap (λ (ss : List Step). get_or (replayed 1 (take 1 ss) zeros) 0 0) cut_steps
    ∙ replayed_at 1 (take 1 (with_hashes cut_entries (0 ∷ []))) zeros 0 (omega (arith, long))

-- the image is not the table's, and a stop inside the first call leaves it
pub cut_differs : cut_image ≡ zeros → ⊥
cut_differs e =
    let z : ◌≡◌ {A = ℕ} 0x80 0 = ap (λ (l : List ℕ). get_or l 0 0) e ∙ get_or-replicate {A = ℕ} 8192 0 0 0 (omega arith) in omega arith

pub cut_left : Cut Zeros 1 cut_log (0 ∷ []) zeros cut_image
unfolding calls
cut_left = cut_inside zeros cut_image 0 uncut (record { long = ap suc (length-replicate {A = ℕ} 8191 0) ∙ sym long; each = each })
  where
    each : (j : ℕ) → j < length zeros → (get_or cut_image j 0 ≡ get_or zeros j 0) ⊎ (get_or cut_image j 0 ≡ get_or (calls Zeros 1 cut_log (0 ∷ []) zeros 1).image j 0)
    each zero h = inr (sym cut_tag)
    each (suc i) h = inl (get_or-replicate {A = ℕ} 8191 i 0 0 (omega (arith, long)) ∙ sym (get_or-replicate {A = ℕ} 8192 (suc i) 0 0 (omega (arith, long))))

-- so it differs from the table only in places that the log names
pub cut_only : OnlyNamed 1 (steps_of cut_log (0 ∷ [])) zeros cut_image
cut_only = stopped_only 1 (steps_of cut_log (0 ∷ [])) zeros (cut_stopped Zeros 1 zeros cut_log (under 7) (0 ∷ []) cut_accepted cut_left)

-- replay from there: applied; the clear's tag, the update's node in slot 0, the table's zeros in slot 1, the update's
-- elided children and id
cut_value : (j : ℕ) → j < 8192 → get_or (replay_image Zeros 1 cut_image cut_log (under 7) (0 ∷ [])) j 0 ≡ value_at 1 (with_hashes cut_entries (0 ∷ [])) (get_or zeros j 0) j
cut_value j h =
    ap (λ (l : List ℕ). get_or l j 0) ((demand_3 Zeros 1 zeros cut_log (under 7) (0 ∷ []) cut_accepted cut_image cut_only).1 ∙ applied_image Zeros 1 zeros cut_log (under 7) (0 ∷ []) cut_accepted)
    ∙ ap (λ (ss : List Step). get_or (replayed 1 ss zeros) j 0) cut_steps ∙ replayed_at 1 (with_hashes cut_entries (0 ∷ [])) zeros j (omega (arith, long))

-- two functions that agree below 8,192 give the same list of places there
abbrev all_below : List ℕ → Bool
all_below [] = true
all_below (j ∷ js) = ltb j 8192 && all_below js

same_places : (f g : ℕ → ℕ) → ((j : ℕ) → j < 8192 → f j ≡ g j) → (js : List ℕ) → all_below js ≡ true → map f js ≡ map g js
same_places f g e [] h = refl
same_places f g e (j ∷ js) h =
    let b = both_hold (ltb j 8192) (all_below js) h in
    ap₂ (λ (v : ℕ) (vs : List ℕ). v ∷ vs) (e j (ltb-true j 8192 b.0)) (same_places f g e js b.1)

-- the tag and a byte of the padding; the first bytes of slots 0 and 1; of the page the last byte that is nobody's, the
-- first and last of the elided children (4056), the first and last of the page id (4064)
abbrev pub places : List ℕ
places = 0 ∷ 1 ∷ 4096 ∷ 4128 ∷ 8151 ∷ 8152 ∷ 8159 ∷ 8160 ∷ 8191 ∷ []

pub cut_ends : (replay_answer Zeros 1 cut_image cut_log (under 7) (0 ∷ []) ≡ given applied)
    × (map (λ j. get_or (replay_image Zeros 1 cut_image cut_log (under 7) (0 ∷ [])) j 0) places ≡ 0x7F ∷ 0 ∷ 5 ∷ 0 ∷ 0 ∷ 2 ∷ 2 ∷ 1 ∷ 1 ∷ [])
unfolding with_hashes value_at named_in entry_names entry_gives slots_below marked digit
cut_ends = (
  (demand_3 Zeros 1 zeros cut_log (under 7) (0 ∷ []) cut_accepted cut_image cut_only).0,
  same_places (λ j. get_or (replay_image Zeros 1 cut_image cut_log (under 7) (0 ∷ [])) j 0) (λ j. value_at 1 (with_hashes cut_entries (0 ∷ [])) (get_or zeros j 0) j) cut_value places refl,
)

-- the step over the update alone, with a hash whose tag is 81: its own tag instead of the clear's
pub step_ends : map (λ j. get_or (step_image Zeros 1 zeros One cut_log 5 (2 ^ 57)) j 0) places ≡ 0x81 ∷ 0 ∷ 5 ∷ 0 ∷ 0 ∷ 2 ∷ 2 ∷ 1 ∷ 1 ∷ []
unfolding entry_names entry_gives slots_below marked digit next_at block records_of record_of flat all_zero
step_ends =
    let e = update (replicate 32 1) (1 ∷ 0 ∷ []) cut_nodes (replicate 8 2) 0 in
    let s : Step = record { entry = e; hash = 2 ^ 57 } in
    let stepped-image = (step_taken Zeros 1 zeros One cut_log 5 (2 ^ 57) (ap (image_fits 1) long) e 102 refl (omega arith)).1 in
    same_places (λ j. get_or (step_image Zeros 1 zeros One cut_log 5 (2 ^ 57)) j 0) (λ j. cond (names 1 s j) (gives 1 s j) (get_or zeros j 0))
    (λ j h. ap (λ (l : List ℕ). get_or l j 0) (sym stepped-image) ∙ stepped_at 1 s zeros j (omega (arith, long))) places refl

-- ---- "26, log of another store, after 7 and before stale": the log of edition two whose seed is `seed`, under a seed that differs in its last byte
abbrev other : ℕ → Expected
other sync = record { sync = sync; seed = 10 ∷ 11 ∷ 12 ∷ 13 ∷ 14 ∷ 15 ∷ 16 ∷ 17 ∷ 18 ∷ 19 ∷ 20 ∷ 21 ∷ 22 ∷ 23 ∷ 24 ∷ 26 ∷ [] }

abbrev on_table : List ℕ → Expected → Answer Did
on_table log want = replay_answer Zeros 1 (replicate 8192 0) log want []

-- its own number and seed; another number; another seed; both; a log of edition one under another seed; 5 and 7 come first
pub stores : on_table log_two_lem (under 7) ∷ on_table log_two_lem (under 8) ∷ on_table log_two_lem (other 7) ∷ on_table log_two_lem (other 8) ∷ on_table (page (a_clear 0)) (other 7) ∷ on_table (take 4095 log_two_lem) (other 7) ∷ on_table (0xB2 ∷ 2 ∷ replicate 4094 0) (other 7) ∷ []
    ≡ refused 9 ∷ given stale ∷ refused 26 ∷ refused 26 ∷ given applied ∷ refused 5 ∷ refused 7 ∷ []
unfolding replay_tests start_in seed_of same_bytes check_answer all_inside updates_in read_by next_at block marked slots_below all_zero
stores = refl

-- ---- "27 [..] in replay after the entries and before the hash count", after stale and every entry's refusal; what was accepted before is accepted by
-- the tolerant call. The first byte after end, and the last of the log, in both editions
abbrev spoilt : List ℕ → ℕ → List ℕ
spoilt log at = set log at 1

abbrev by_rule : AfterEnd → List ℕ → ℕ → List ℕ → Answer Did
by_rule rule log sync hashes = replay_answer rule 4 (replicate 20480 0) log (under sync) hashes

abbrev on_spoilt : AfterEnd → List (Answer Did)
on_spoilt rule =
    by_rule rule (spoilt (page (a_clear 0)) 15) 7 [] ∷ by_rule rule (spoilt (page (a_clear 0)) 4095) 7 (0 ∷ []) ∷ by_rule rule (spoilt (page (a_clear 0)) 4095) 8 []
    ∷ by_rule rule (spoilt (page (a_clear 4)) 4095) 7 [] ∷ by_rule rule (spoilt log_two_lem 34) 7 [] ∷ by_rule rule (page (a_clear 0)) 7 [] ∷ []

pub endings : (on_spoilt Zeros ≡ refused 27 ∷ refused 27 ∷ given stale ∷ refused 9 ∷ refused 27 ∷ given applied ∷ [])
    × (on_spoilt Tolerant ≡ given applied ∷ refused 2 ∷ given stale ∷ refused 9 ∷ given applied ∷ given applied ∷ [])
    × (step_answer Zeros 1 (replicate 8192 0) One (spoilt (page (a_clear 0)) 15) 14 ∷ step_answer Zeros 1 (replicate 8192 0) One (spoilt (page (a_clear 0)) 15) 5 ∷ step_answer Tolerant 1 (replicate 8192 0) One (spoilt (page (a_clear 0)) 15) 14 ∷ []
    ≡ refused 27 ∷ given (cleared 14) ∷ given at_end ∷ [])
unfolding replay_tests step_answer start_in seed_of same_bytes check_answer all_inside updates_in read_by next_at block marked slots_below all_zero
endings = (refl, refl, refl)

-- a log that `Endings.used_refused` speaks of: accepted by the tolerant call, with its end at 14 and a 1 at 15
pub spoilt_met : let log : List ℕ = spoilt (page (a_clear 0)) 15 in (by_rule Tolerant log 7 [] ≡ given applied) × ((read_log Tolerant log).at + 1 ≤ 15) × (get_or log 15 0 ≡ 0 → ⊥)
unfolding replay_tests start_in check_answer all_inside updates_in read_by next_at block marked slots_below
spoilt_met = (refl, omega arith, λ e. omega arith)
