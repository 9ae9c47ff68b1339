-- 01, 'Sync': what a change and a whole sync answer and leave, each answer and each refusal, in literals. Assumes
-- nothing.
use mathlib.Core.Path.{◌≡◌, refl}
use mathlib.Core.List.{List, [], ◌∷◌, ◌++◌, map}
use Prim.Native.Nat.{ℕ, ◌+◌, ◌-◌, ◌*◌, ◌^◌}
use native.Mathlib.Omega.{arith}
use lib.ListN.{replicate}
use Rattle.std.specs.Prelude.{Ok, Err}
use Rattle.answers.specs.Answers.{Answer, given, refused}
use Rattle.answers.specs.declared.Refusal.TheVariants.{LengthUnfit, BucketOutside, BucketUnfit, NoRoom}
use Rattle.blocks.specs.Blocks.{block, put, flat, all_zero}
use Rattle.meta_map.specs.Tags.{count_of}
use Rattle.page_diff.specs.Diff.{marked, slots_below}
use Rattle.probe.specs.Path.{allocating, hit_limit}
use Rattle.wal.specs.Log.{Entry, clear, update, edition_one, edition_two, record_of, records_of}
use Rattle.wal.specs.Reader.{start_in, next, next_at, next_by, read_by}
use Rattle.wal.specs.Run.{log_of}
use Rattle.wal.specs.Writer.{open_at, begin_answer, finish_answer}
use Rattle.wal.specs.declared.AfterEnd.TheVariants.{Zeros}
use Rattle.wal.specs.declared.Edition.TheVariants.{One}
use Rattle.wal.proofs.Examples.{seed}
use Rattle.wal.specs.declared.Writer.TheVariants.{Fresh, Finished}
use Rattle.recover.specs.Places.{with_hashes}
use Rattle.recover.specs.Replay.{applied, all_inside, updates_in, check_answer, replay_tests, replay_answer, replay_image, steps_of, step_image}
use Rattle.sync.proofs.Labels.{Labelled, elsewhere, step_labelled, replay_labelled}
use Rattle.sync.specs.Change.{Mem, mem_of, where_of, place_of, does_of, cleared, effect_of, mem_by, state_of, state_by, page_number, taken_said}
use Rattle.sync.specs.Sync.{change_at, change_mem, all_of, mem_all, run_said, on, unbegun, stopped, before_changes, said_done, said_refused, said_refused_at, sync_says, sync_mem, sync_writer, synced_said}
use Rattle.sync.proofs.Narrowed.{former_effect}
use Rattle.sync.specs.declared.Change.{Change}
use Rattle.sync_parts.specs.declared.Where.{Where}
use Rattle.sync_parts.specs.declared.Where.TheVariants.{Known, Fresh as FreshPage, Cell}
use Rattle.sync.specs.declared.SyncState.{SyncState}
use Rattle.sync.specs.declared.SyncRefusal.TheVariants.{Refused, RefusedAt}

-- three buckets with these tags, where the path of hash 0 is 0 1 for ever; one tag page, whose mark is 9; some cells; a
-- page of log of 6s
abbrev tags : ℕ → ℕ → ℕ → List ℕ
tags a b c = a ∷ b ∷ c ∷ replicate 4093 0

abbrev mem : List ℕ → List ℕ → Mem
mem ts cells = mem_of ts (9 ∷ []) cells (replicate 4096 6)

abbrev unset : ℕ
unset = 2 ^ 64 - 1

-- a change of the page with the id 1 .. 1 and this hash, with these words; and its page: 2s in slot 0, 4s for the
-- elided children, 8s for the id
abbrev change : ℕ → ℕ → ℕ → Where → Change
change hash lo hi w = record { id = replicate 32 1; hash = hash; diff = record { words = lo ∷ hi ∷ [] }; place = place_of w }

abbrev page : List ℕ
page = replicate 32 2 ++ (replicate 4024 0 ++ (replicate 8 4 ++ replicate 32 8))

-- an update of slot 0, whose hash has the tag 0x80; a clear, whose hash has the tag 0x85; and a diff with bit 126 beside the clear's
abbrev updating : Where → Change
updating w = change 0 1 0 w

abbrev clearing : Where → Change
clearing w = change (5 * 2 ^ 57) 0 (2 ^ 63) w

abbrev reserved : Where → Change
reserved w = change 0 0 (2 ^ 63 + 2 ^ 62) w

-- what a step answers
abbrev stepped : SyncState → Mem → List ℕ → Change → Answer (ℕ × ℕ)
stepped st m p c = page_number st (effect_of st m p c)

abbrev open5 : SyncState
open5 = state_of 3 hit_limit (open_at One 5) 5

abbrev asked : List ℕ → List ℕ → Change → Answer (ℕ × ℕ)
asked ts cells c = stepped open5 (mem ts cells) page c

-- "1, 2 (page, marks), 12"; "each change: 4, cell index 2, 9, 14, 13, 10 or 11"; then what is accepted
pub steps : (stepped (state_of 0 hit_limit Fresh 5) (mem (tags 0 0 0) []) [] (reserved (Cell 0)) ∷ stepped (state_of 4097 hit_limit Fresh 5) (mem (tags 0 0 0) []) page (reserved (Cell 0))
    ∷ stepped (state_of 3 hit_limit Fresh 5) (mem (tags 0 0 0) []) [] (reserved (Cell 0)) ∷ stepped (state_of 3 hit_limit Fresh 5) (mem_of (tags 0 0 0) [] [] []) page (reserved (Cell 0))
    ∷ stepped (state_of 3 hit_limit Fresh 5) (mem (tags 0 0 0) []) page (reserved (Cell 0)) ∷ stepped (state_of 3 hit_limit (Finished 4096) 5) (mem (tags 0 0 0) []) page (reserved (Cell 0)) ∷ [])
    ∷ (asked (tags 0 0 0) [] (reserved (Cell 0)) ∷ asked (tags 0 0 0) [] (updating (Cell 0)) ∷ asked (tags 0 0 0) (3 ∷ []) (updating (Cell 0)) ∷ asked (tags 0 0 0) [] (clearing (Known 3))
    ∷ asked (tags 0x7F 0 0) [] (clearing (Known 0)) ∷ asked (tags 0 0 0) [] (clearing FreshPage) ∷ asked (tags 0 0 0) (unset ∷ []) (clearing (Cell 0)) ∷ asked (tags 0x81 0 0) [] (updating (Known 0)) ∷ asked (tags 0x81 0 0) [] (clearing (Known 0)) ∷ [])
    ∷ (stepped (state_of 3 hit_limit (open_at One 4087) 5) (mem (tags 0x85 0 0) []) page (clearing (Known 0)) ∷ stepped (state_of 3 hit_limit (open_at One 3999) 5) (mem (tags 0x81 0x81 0) []) page (updating FreshPage)
    ∷ asked (tags 0x80 0x81 0) [] (updating FreshPage) ∷ asked (tags 0x81 0x81 0) [] (updating FreshPage) ∷ [])
    ∷ (asked (tags 0 0x85 0) [] (clearing (Known 1)) ∷ asked (tags 0x80 0 0) [] (updating (Known 0)) ∷ asked (tags 0x81 0x7F 0) [] (updating FreshPage)
    ∷ asked (tags 0 0 0x80) (2 ∷ []) (updating (Cell 0)) ∷ asked (tags 0 0 0) (unset ∷ []) (updating (Cell 0)) ∷ []) ∷ []
    ≡ (refused 1 ∷ refused 1 ∷ refused 2 ∷ refused 2 ∷ refused 12 ∷ refused 12 ∷ []) ∷ (refused 4 ∷ refused 2 ∷ refused 9 ∷ refused 9 ∷ refused 14 ∷ refused 14 ∷ refused 14 ∷ refused 14 ∷ refused 14 ∷ [])
    ∷ (refused 13 ∷ refused 13 ∷ refused 10 ∷ refused 11 ∷ []) ∷ (given (1, 2) ∷ given (0, 1) ∷ given (1, 2) ∷ given (2, 3) ∷ given (0, 1) ∷ []) ∷ []
unfolding effect_of allocating marked slots_below
steps = refl

-- the log of 6s with these bytes at 5
abbrev logged : List ℕ → ℕ → List ℕ
logged bs after = replicate 5 6 ++ (bs ++ replicate after 6)

abbrev clear_bytes : ℕ → List ℕ
clear_bytes b = 3 ∷ b ∷ replicate 7 0

abbrev update_bytes : ℕ → List ℕ
update_bytes b = 4 ∷ (replicate 32 1 ++ (1 ∷ (replicate 15 0 ++ (replicate 32 2 ++ (replicate 8 4 ++ (b ∷ replicate 7 0))))))

abbrev left : List ℕ → List ℕ → Change → Mem
left ts cells c = mem_by (effect_of open5 (mem ts cells) page c) open5 (mem ts cells) page c

-- the memory after a clear, an update of a known bucket, one that takes a bucket for a cell, and a refusal
pub memories : left (tags 0 0x85 0) [] (clearing (Known 1)) ∷ left (tags 0x80 0 0) [] (updating (Known 0)) ∷ left (tags 0x81 0x7F 0) (7 ∷ unset ∷ []) (updating (Cell 1)) ∷ left (tags 0x81 0 0) [] (updating (Known 0)) ∷ []
    ≡ mem_of (tags 0 0x7F 0) (1 ∷ []) [] (logged (clear_bytes 1) 4082) ∷ mem_of (tags 0x80 0 0) (9 ∷ []) [] (logged (update_bytes 0) 3994)
    ∷ mem_of (tags 0x81 0x80 0) (1 ∷ []) (7 ∷ 1 ∷ []) (logged (update_bytes 1) 3994) ∷ mem (tags 0x81 0 0) [] ∷ []
unfolding effect_of allocating marked slots_below put record_of flat block
memories = refl

-- bucket 4,096 of 4,097: its tag and its mark are those of the second page
abbrev far : Mem
far = mem_of (replicate 4096 0 ++ (0x85 ∷ replicate 4095 0)) (9 ∷ 9 ∷ []) [] (replicate 4096 6)

pub second_page : (effect_of (state_of 4097 hit_limit (open_at One 5) 5) far page (clearing (Known 4096)) ≡ given (cleared 4096))
    × ((mem_by (given (cleared 4096)) (state_of 4097 hit_limit (open_at One 5) 5) far page (clearing (Known 4096))).marks ≡ 9 ∷ 1 ∷ [])
    × (page_number (state_of 4097 hit_limit (open_at One 5) 5) (given (cleared 4096)) ≡ given (4096, 4098))
unfolding effect_of allocating marked slots_below
second_page = (refl, refl, refl)

abbrev state_left : List ℕ → Change → SyncState
state_left ts c = state_by (effect_of open5 (mem ts []) page c) open5 c

-- and the state: "occupied falls by one", stays, "rises by one"; a refusal leaves it; a false number stays within its
-- type
pub states : state_left (tags 0 0x85 0) (clearing (Known 1)) ∷ state_left (tags 0x80 0 0) (updating (Known 0)) ∷ state_left (tags 0x81 0x7F 0) (updating FreshPage) ∷ state_left (tags 0x81 0 0) (updating (Known 0))
    ∷ state_by (effect_of (state_of 3 hit_limit (open_at One 5) 0) (mem (tags 0x85 0 0) []) page (clearing (Known 0))) (state_of 3 hit_limit (open_at One 5) 0) (clearing (Known 0))
    ∷ state_by (effect_of (state_of 3 hit_limit (open_at One 5) (2 ^ 64 - 1)) (mem (tags 0 0 0) []) page (updating FreshPage)) (state_of 3 hit_limit (open_at One 5) (2 ^ 64 - 1)) (updating FreshPage) ∷ []
    ≡ state_of 3 hit_limit (open_at One 14) 4 ∷ state_of 3 hit_limit (open_at One 102) 5 ∷ state_of 3 hit_limit (open_at One 102) 6 ∷ state_of 3 hit_limit (open_at One 5) 5 ∷ state_of 3 hit_limit (open_at One 14) 0 ∷ state_of 3 hit_limit (open_at One 102) (2 ^ 64 - 1) ∷ []
unfolding effect_of allocating marked slots_below
states = refl

-- ---- the whole sync, of sync number 7: no change; a clear and then a page that takes the bucket; the same clear twice; and those refused before
-- any change
abbrev twice : List Change
twice = clearing (Known 0) ∷ clearing (Known 0) ∷ []

abbrev both : List Change
both = clearing (Known 0) ∷ updating FreshPage ∷ []

abbrev pages : List ℕ
pages = page ++ page

abbrev two : Mem
two = mem (tags 0x85 0x81 0) []

pub syncs : sync_says 3 two [] [] (edition_one 7) ∷ sync_says 3 two pages both (edition_one 7) ∷ sync_says 3 two pages twice (edition_one 7) ∷ sync_says 0 two pages both (edition_one 7) ∷ sync_says 3 two page both (edition_one 7)
    ∷ sync_says 3 (mem_of (tags 0x85 0x81 0) [] [] (replicate 4096 6)) pages both (edition_one 7) ∷ sync_says 3 (mem_of (tags 0x85 0x81 0) (9 ∷ []) [] (replicate 4095 6)) pages both (edition_one 7) ∷ []
    ≡ said_done 2 4096 ∷ said_done 2 4096 ∷ said_refused_at 1 14 ∷ said_refused 1 ∷ said_refused 2 ∷ said_refused 2 ∷ said_refused 13 ∷ []
unfolding sync_says before_changes all_of mem_all change_at change_mem effect_of allocating marked slots_below count_of put record_of flat block begin_answer finish_answer
syncs = refl

abbrev started : List ℕ → List ℕ
started rest = 1 ∷ 7 ∷ 0 ∷ 0 ∷ 0 ∷ rest

pub sync_memories : sync_mem 3 two [] [] (edition_one 7) ∷ sync_mem 3 two pages both (edition_one 7) ∷ sync_mem 3 two pages twice (edition_one 7) ∷ sync_mem 3 two page both (edition_one 7) ∷ []
    ≡ mem_of (tags 0x85 0x81 0) (0 ∷ []) [] (started (2 ∷ replicate 4090 0)) ∷ mem_of (tags 0x80 0x81 0) (1 ∷ []) [] (started (clear_bytes 0 ++ (update_bytes 0 ++ (2 ∷ replicate 3984 0))))
    ∷ mem_of (tags 0x7F 0x81 0) (1 ∷ []) [] (started (clear_bytes 0 ++ replicate 4082 6)) ∷ two ∷ []
unfolding sync_mem before_changes all_of mem_all change_at change_mem effect_of allocating marked slots_below count_of put record_of flat block begin_answer finish_answer
sync_memories = refl

pub sync_writers : sync_writer 3 two pages both (edition_one 7) (open_at One 77) ∷ sync_writer 3 two pages twice (edition_one 7) (open_at One 77) ∷ sync_writer 3 two page both (edition_one 7) (open_at One 77) ∷ [] ≡ Finished 4096 ∷ Fresh ∷ open_at One 77 ∷ []
unfolding sync_writer before_changes all_of mem_all change_at change_mem effect_of allocating marked slots_below count_of put record_of flat block begin_answer finish_answer
sync_writers = refl

-- the same sync with a log of edition two: the store is named in the start, and 0xB2 stands before each tag
pub sync_two : (sync_says 3 two pages both (edition_two 7 seed) ∷ sync_says 3 two pages twice (edition_two 7 seed) ∷ [] ≡ said_done 2 4096 ∷ said_refused_at 1 14 ∷ [])
    × ((sync_mem 3 two pages both (edition_two 7 seed)).log ≡ 0xB2 ∷ 1 ∷ 7 ∷ 0 ∷ 0 ∷ 0 ∷ (seed ++ ((0xB2 ∷ clear_bytes 0) ++ ((0xB2 ∷ update_bytes 0) ++ (0xB2 ∷ 2 ∷ replicate 3964 0)))))
unfolding sync_says sync_mem before_changes all_of mem_all change_at change_mem effect_of allocating marked slots_below count_of put record_of flat block begin_answer finish_answer
sync_two = (refl, refl)

-- "where (known b, fresh, or cell i)" as two numbers, and back
pub wheres : map where_of (record { kind = 0; at = 7 } ∷ record { kind = 1; at = 7 } ∷ record { kind = 2; at = 7 } ∷ record { kind = 3; at = 7 } ∷ []) ≡ Known 7 ∷ FreshPage ∷ Cell 7 ∷ Cell 7 ∷ []
wheres = refl

pub placed : map place_of (Known 7 ∷ FreshPage ∷ Cell 7 ∷ []) ≡ record { kind = 0; at = 7 } ∷ record { kind = 1; at = 0 } ∷ record { kind = 2; at = 7 } ∷ []
placed = refl

-- each case of the code's answers
pub said : (map taken_said (Ok record { bucket = 1; page = 2 } ∷ Err BucketUnfit ∷ []) ≡ given (1, 2) ∷ refused 14 ∷ []) × (map run_said (Ok (state_of 3 hit_limit (open_at One 5) 2) ∷ Err (Refused NoRoom) ∷ Err (RefusedAt 1 BucketOutside) ∷ []) ≡ on (state_of 3 hit_limit (open_at One 5) 2) ∷ unbegun 13 ∷ stopped 1 9 ∷ [])
    × (map synced_said (Ok record { occupied = 2; length = 4096 } ∷ Err (Refused LengthUnfit) ∷ Err (RefusedAt 1 NoRoom) ∷ []) ≡ said_done 2 4096 ∷ said_refused 2 ∷ said_refused_at 1 13 ∷ [])
said = (refl, refl, refl)

-- a log that clears bucket 0 and then updates it, replayed over a table of zeros: all that the laws of labels ask for
abbrev update0 : Entry
update0 = update (replicate 32 1) (1 ∷ 0 ∷ []) (replicate 32 5 ∷ []) (replicate 8 2) 0

abbrev label_log : List ℕ
label_log = log_of (edition_one 7) (clear 0 ∷ update0 ∷ [])

accepted : replay_answer Zeros 1 (replicate 8192 0) label_log (record { sync = 7; seed = replicate 16 0 }) (0 ∷ []) ≡ given applied
unfolding replay_tests start_in check_answer all_inside updates_in read_by next_at block marked slots_below records_of record_of flat all_zero
accepted = refl

its_steps : steps_of label_log (0 ∷ []) ≡ record { entry = clear 0; hash = 0 } ∷ record { entry = update0; hash = 0 } ∷ []
unfolding with_hashes read_by next_at block marked slots_below records_of record_of flat
its_steps = refl

its_second : next_by Zeros One label_log 14 ≡ next update0 111
unfolding next_at block marked slots_below records_of record_of flat all_zero
its_second = refl

pub labels : Labelled 1 (replay_image Zeros 1 (replicate 8192 0) label_log (record { sync = 7; seed = replicate 16 0 }) (0 ∷ [])) 0 0 (replicate 32 1) (replicate 8 2)
    × Labelled 1 (step_image Zeros 1 (replicate 8192 0) One label_log 14 0) 0 0 (replicate 32 1) (replicate 8 2)
unfolding elsewhere
labels = (
  replay_labelled Zeros 1 (replicate 8192 0) label_log (record { sync = 7; seed = replicate 16 0 }) (0 ∷ []) accepted (record { entry = clear 0; hash = 0 } ∷ []) [] (replicate 32 1) (1 ∷ 0 ∷ []) (replicate 32 5 ∷ []) (replicate 8 2) 0 0 its_steps refl refl refl,
  step_labelled Zeros 1 (replicate 8192 0) One label_log 14 0 (replicate 32 1) (1 ∷ 0 ∷ []) (replicate 32 5 ∷ []) (replicate 8 2) 0 111 refl its_second (omega arith) refl refl,
)

-- a clear that `Narrowed` speaks of: bucket 0 is full with another tag. Document 01's rule took it; it is refused with 14, and its own is taken
pub narrowed : (former_effect open5 (mem (tags 0x81 0 0) []) page (clearing (Known 0)) ∷ effect_of open5 (mem (tags 0x81 0 0) []) page (clearing (Known 0)) ∷ effect_of open5 (mem (tags 0x85 0 0) []) page (clearing (Known 0)) ∷ []
    ≡ given (cleared 0) ∷ refused 14 ∷ given (cleared 0) ∷ [])
unfolding effect_of does_of marked slots_below
narrowed = refl
