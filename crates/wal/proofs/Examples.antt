-- 01, 'Log', 'Reader' and 'Writer', and 02, W-207 and W-208: the bytes and sizes of each record, what stands at a position, and what a writer
-- answers, each refusal with its number, in literals. Assumes nothing.
use mathlib.Core.Path.{◌≡◌, refl}
use mathlib.Core.List.{List, [], ◌∷◌, ◌++◌, map}
use Prim.Native.Nat.{ℕ, ◌^◌}
use lib.ListN.{length, take, set, replicate}
use Rattle.answers.specs.Answers.{given, refused}
use Rattle.blocks.specs.Blocks.{block, put, flat, all_zero}
use Rattle.page_diff.specs.Diff.{marked, slots_below}
use Rattle.wal.specs.Log.{Entry, clear, update, mark_size, edition_one, edition_two, start_record, start_size, record_of, clear_size, update_size, records_of, finished_length, end_record}
use Rattle.wal.specs.Reader.{edition_at, start_in, start_of, seed_of, next, ended, stopped, next_at, next_by, Reading, read_by, read_log}
use Rattle.wal.specs.Writer.{open_at, begin_answer, begin_log, begin_writer, clear_answer, update_answer, record_log, record_writer, finish_answer, finish_log, finish_writer}
use Rattle.wal.specs.Run.{log_of}
use Rattle.wal.specs.declared.AfterEnd.TheVariants.{Zeros, Tolerant}
use Rattle.wal.specs.declared.Edition.TheVariants.{One, Two}
use Rattle.wal.specs.declared.Writer.TheVariants.{Fresh, Finished}

-- an update of bucket 9 with slots 0 and 125 marked
abbrev pub entry : Entry
entry = update (replicate 32 1) (1 ∷ (2 ^ 61) ∷ []) (replicate 32 2 ∷ replicate 32 3 ∷ []) (replicate 8 4) 9

-- its bytes: the tag 4, the id, the diff, two nodes, the elided children, the bucket
abbrev pub entry_bytes : List ℕ
entry_bytes =
    4
    ∷ (replicate 32 1
    ++ (1 ∷ (replicate 14 0 ++ (0x20 ∷ (replicate 32 2 ++ (replicate 32 3 ++ (replicate 8 4 ++ (9 ∷ replicate 7 0))))))))

-- "start = 1, sync number u32; clear = 3, bucket u64; update = 4, .. ; end = 2, then zeros to a multiple of 4,096"
pub records : start_record (edition_one 0x04030201) ∷ record_of One (clear 0x0807060504030201) ∷ record_of One entry ∷ end_record One 143 ∷ end_record One 4095 ∷ []
    ≡ (1 ∷ 1 ∷ 2 ∷ 3 ∷ 4 ∷ []) ∷ (3 ∷ 1 ∷ 2 ∷ 3 ∷ 4 ∷ 5 ∷ 6 ∷ 7 ∷ 8 ∷ []) ∷ entry_bytes ∷ (2 ∷ replicate 3952 0) ∷ (2 ∷ []) ∷ []
unfolding record_of flat
records = refl

-- "(65 + 32c bytes)"
pub sizes : (mark_size One ∷ start_size One ∷ clear_size One ∷ map (update_size One) (0 ∷ 2 ∷ 126 ∷ [])) ∷ map (finished_length One) (5 ∷ 4095 ∷ 4096 ∷ [])
    ∷ (length (start_record (edition_one 7)) ∷ length (record_of One (clear 3)) ∷ length (record_of One entry) ∷ []) ∷ []
    ≡ (1 ∷ 5 ∷ 9 ∷ 65 ∷ 129 ∷ 4097 ∷ []) ∷ (4096 ∷ 4096 ∷ 8192 ∷ []) ∷ (5 ∷ 9 ∷ 129 ∷ []) ∷ []
unfolding record_of flat
sizes = refl

-- a log of sync 7: a clear of bucket 3 at 5, the update at 14, the end at 143
abbrev pub log : List ℕ
log = 1 ∷ 7 ∷ 0 ∷ 0 ∷ 0 ∷ 3 ∷ 3 ∷ 0 ∷ 0 ∷ 0 ∷ 0 ∷ 0 ∷ 0 ∷ 0 ∷ (entry_bytes ++ (2 ∷ replicate 3952 0))

pub log_bytes : log_of (edition_one 7) (clear 3 ∷ entry ∷ []) ≡ log
unfolding records_of record_of flat
log_bytes = refl

-- "The reader when set: 5, then 6 for an empty log, 7"
pub starts : start_of log ∷ start_of (take 4095 log) ∷ start_of [] ∷ start_of (2 ∷ replicate 4095 0) ∷ [] ≡ given 7 ∷ refused 5 ∷ refused 6 ∷ refused 7 ∷ []
unfolding start_in block
starts = refl

-- an update up to its diff, whose last byte is b
abbrev pub to_diff : ℕ → List ℕ
to_diff b = 4 ∷ (replicate 47 0 ++ (b ∷ []))

-- entries, the end; a start and a zero later on are 8; nothing left is 6; a clear that is cut, an update cut before its
-- diff and after it 6, with a reserved bit 4
pub nexts : map (next_at One log) (5 ∷ 14 ∷ 143 ∷ 0 ∷ 144 ∷ 4096 ∷ []) ∷ map (λ l. next_at One l 0) (take 8 (3 ∷ replicate 8 0) ∷ take 48 (to_diff 0x40) ∷ to_diff 0x40 ∷ to_diff 0x80 ∷ to_diff 0x20 ∷ []) ∷ []
    ≡ (next (clear 3) 14 ∷ next entry 143 ∷ ended ∷ stopped 8 ∷ stopped 8 ∷ stopped 6 ∷ []) ∷ (stopped 6 ∷ stopped 6 ∷ stopped 4 ∷ stopped 4 ∷ stopped 6 ∷ []) ∷ []
unfolding next_at block marked slots_below
nexts = refl

abbrev reading : Reading
reading = record { entries = clear 3 ∷ entry ∷ []; at = 143; stop = given tt }

pub read : read_log Tolerant log ≡ reading
unfolding read_by next_at block marked slots_below
read = refl

-- a slice of so many bytes
abbrev pub slice : ℕ → List ℕ
slice n = replicate n 6

-- "Begin works in any state and needs capacity 4,096"; a clear and an update taken exactly where position + size + 1 fits; "12, 2, 4, 13"
pub writers : (map (λ n. begin_answer (slice n)) (4095 ∷ 4096 ∷ 8191 ∷ []) ∷ map (clear_answer (slice 8191)) (Fresh ∷ Finished 4096 ∷ open_at One 4086 ∷ open_at One 4087 ∷ [])
    ∷ (update_answer (slice 4096) Fresh (1 ∷ 0 ∷ []) 2 ∷ update_answer (slice 4096) (open_at One 5) (1 ∷ (2 ^ 62) ∷ []) 1 ∷ update_answer (slice 4096) (open_at One 5) (1 ∷ (2 ^ 62) ∷ []) 2
    ∷ update_answer (slice 4096) (open_at One 3998) (1 ∷ 0 ∷ []) 1 ∷ update_answer (slice 4096) (open_at One 3999) (1 ∷ 0 ∷ []) 1 ∷ []) ∷ []
    ≡ (refused 13 ∷ given tt ∷ given tt ∷ []) ∷ (refused 12 ∷ refused 12 ∷ given tt ∷ refused 13 ∷ []) ∷ (refused 12 ∷ refused 2 ∷ refused 4 ∷ given tt ∷ refused 13 ∷ []) ∷ [])
    × (map (finish_answer (slice 4096)) (Fresh ∷ Finished 4096 ∷ open_at One 5 ∷ open_at One 4095 ∷ open_at One 4096 ∷ []) ≡ refused 12 ∷ refused 12 ∷ given 4096 ∷ given 4096 ∷ refused 13 ∷ [])
unfolding begin_answer clear_answer update_answer finish_answer marked slots_below
writers = (refl, refl)

-- the states: begun, begun in vain, after a clear, finished, finished in vain
pub states : begin_writer (slice 4096) Fresh One ∷ begin_writer (slice 4095) (open_at One 14) One ∷ record_writer (given tt) (open_at One 5) 9 ∷ record_writer (refused 13) (open_at One 5) 9 ∷ finish_writer (slice 4096) (open_at One 14) ∷ finish_writer (slice 4096) (open_at One 4096) ∷ []
    ≡ open_at One 5 ∷ open_at One 14 ∷ open_at One 14 ∷ open_at One 5 ∷ Finished 4096 ∷ open_at One 4096 ∷ []
unfolding begin_answer finish_answer
states = refl

-- the logs: begun, a clear of bucket 3 at 5, finished at 14; and in vain
pub logs : begin_log (slice 4096) (edition_one 7) ∷ record_log (given tt) (slice 4096) (open_at One 5) (record_of One (clear 3)) ∷ finish_log (slice 4097) (open_at One 14) ∷ begin_log (slice 4095) (edition_one 7) ∷ finish_log (slice 4096) Fresh ∷ []
    ≡ (1 ∷ 7 ∷ 0 ∷ 0 ∷ 0 ∷ replicate 4091 6) ∷ (replicate 5 6 ++ (3 ∷ 3 ∷ 0 ∷ 0 ∷ 0 ∷ 0 ∷ 0 ∷ 0 ∷ 0 ∷ replicate 4082 6)) ∷ (replicate 14 6 ++ (2 ∷ (replicate 4081 0 ++ (6 ∷ [])))) ∷ slice 4095 ∷ slice 4096 ∷ []
unfolding begin_answer finish_answer record_of put
logs = refl

-- ---- edition two

-- the seed of a store
abbrev pub seed : List ℕ
seed = 10 ∷ 11 ∷ 12 ∷ 13 ∷ 14 ∷ 15 ∷ 16 ∷ 17 ∷ 18 ∷ 19 ∷ 20 ∷ 21 ∷ 22 ∷ 23 ∷ 24 ∷ 25 ∷ []

-- an update of bucket 9 with slot 0 marked
abbrev pub one_slot : Entry
one_slot = update (replicate 32 1) (1 ∷ 0 ∷ []) (replicate 32 2 ∷ []) (replicate 8 4) 9

-- "0xB2 and then the tag of edition one. After the start mark come the sync number and the store's 16 seed bytes (22 bytes in all); other
-- records are as before, end is the mark alone, then zeros"
pub records_two : start_record (edition_two 0x04030201 seed) ∷ record_of Two (clear 0x0807060504030201) ∷ record_of Two one_slot ∷ end_record Two 4000 ∷ end_record Two 4094 ∷ []
    ≡ (0xB2 ∷ 1 ∷ 1 ∷ 2 ∷ 3 ∷ 4 ∷ seed) ∷ (0xB2 ∷ 3 ∷ 1 ∷ 2 ∷ 3 ∷ 4 ∷ 5 ∷ 6 ∷ 7 ∷ 8 ∷ [])
    ∷ (0xB2 ∷ 4 ∷ (replicate 32 1 ++ (1 ∷ (replicate 15 0 ++ (replicate 32 2 ++ (replicate 8 4 ++ (9 ∷ replicate 7 0)))))))
    ∷ (0xB2 ∷ 2 ∷ replicate 94 0) ∷ (0xB2 ∷ 2 ∷ []) ∷ []
unfolding record_of flat
records_two = refl

-- "start 22, clear 10, update 66 + 32c, end 2"
pub sizes_two : (mark_size Two ∷ start_size Two ∷ clear_size Two ∷ map (update_size Two) (0 ∷ 2 ∷ 126 ∷ [])) ∷ map (finished_length Two) (22 ∷ 4094 ∷ 4095 ∷ []) ∷ []
    ≡ (2 ∷ 22 ∷ 10 ∷ 66 ∷ 130 ∷ 4098 ∷ []) ∷ (4096 ∷ 4096 ∷ 8192 ∷ []) ∷ []
sizes_two = refl

-- a log of edition two: a clear of bucket 3 at 22, the end at 32
abbrev pub log_two_lem : List ℕ
log_two_lem = 0xB2 ∷ 1 ∷ 7 ∷ 0 ∷ 0 ∷ 0 ∷ (seed ++ (0xB2 ∷ 3 ∷ 3 ∷ 0 ∷ 0 ∷ 0 ∷ 0 ∷ 0 ∷ 0 ∷ 0 ∷ 0xB2 ∷ 2 ∷ replicate 4062 0))

pub log_two_bytes : log_of (edition_two 7 seed) (clear 3 ∷ []) ≡ log_two_lem
unfolding records_of record_of flat
log_two_bytes = refl

-- "The first byte tells: 1 or 0xB2; a 0xB2 not followed by 1 is 7"; the reader of edition one answers 7 on a log of edition two
pub starts_two : (start_of log_two_lem ∷ start_of (0xB2 ∷ 2 ∷ replicate 4094 0) ∷ start_in One log_two_lem ∷ start_in Two log ∷ [] ≡ given 7 ∷ refused 7 ∷ refused 7 ∷ refused 7 ∷ [])
    × (edition_at log_two_lem ∷ edition_at log ∷ [] ≡ Two ∷ One ∷ []) × (seed_of log_two_lem ≡ seed)
unfolding start_in seed_of block
starts_two = (refl, refl, refl)

-- an entry, the end; a bare tag and a start mark later are 8; at the last byte 0xB2 is 6 and any other 8; nothing left is 6
pub nexts_two : map (next_at Two log_two_lem) (22 ∷ 32 ∷ 0 ∷ 23 ∷ 4095 ∷ 4096 ∷ []) ∷ map (λ l. next_at Two l 0) ((0xB2 ∷ []) ∷ (3 ∷ []) ∷ (0xB2 ∷ 5 ∷ []) ∷ (2 ∷ 2 ∷ []) ∷ take 9 (0xB2 ∷ 3 ∷ replicate 8 0) ∷ []) ∷ []
    ≡ (next (clear 3) 32 ∷ ended ∷ stopped 8 ∷ stopped 8 ∷ stopped 8 ∷ stopped 6 ∷ []) ∷ (stopped 6 ∷ stopped 8 ∷ stopped 8 ∷ stopped 8 ∷ stopped 6 ∷ []) ∷ []
unfolding next_at block marked slots_below
nexts_two = refl

pub read_two : read_log Tolerant log_two_lem ≡ record { entries = clear 3 ∷ []; at = 32; stop = given tt }
unfolding read_by next_at block marked slots_below
read_two = refl

-- "taken when position + size + 2 is at most capacity (finish: position + 2)"
pub writers_two : (map (clear_answer (slice 8191)) (open_at Two 4084 ∷ open_at Two 4085 ∷ []) ≡ given tt ∷ refused 13 ∷ [])
    × (map (λ p. update_answer (slice 4096) (open_at Two p) (1 ∷ 0 ∷ []) 1) (3996 ∷ 3997 ∷ []) ≡ given tt ∷ refused 13 ∷ [])
    × (map (finish_answer (slice 4096)) (open_at Two 4094 ∷ open_at Two 4095 ∷ []) ≡ given 4096 ∷ refused 13 ∷ [])
    × (begin_writer (slice 4096) Fresh Two ∷ record_writer (given tt) (open_at Two 22) 10 ∷ [] ≡ open_at Two 22 ∷ open_at Two 32 ∷ [])
unfolding clear_answer update_answer finish_answer begin_answer marked slots_below
writers_two = (refl, refl, refl, refl)

-- W-208: the first byte after end and the last of the log, set, are 27 in place of end where zeros are wanted, in both editions; an entry before it
-- and what is refused stay; the tolerant reader gives end. The mark of end is not "after end": a finished log gives end by both
pub after_end_lem : (map (λ l. read_log Zeros l) (log ∷ log_two_lem ∷ []) ≡ map (λ l. read_log Tolerant l) (log ∷ log_two_lem ∷ []))
    × (map (λ l. (read_log Zeros l).stop) (log ∷ set log 144 1 ∷ set log 4095 1 ∷ log_two_lem ∷ set log_two_lem 34 1 ∷ set log_two_lem 4095 1 ∷ []) ≡ given tt ∷ refused 27 ∷ refused 27 ∷ given tt ∷ refused 27 ∷ refused 27 ∷ [])
    × (read_log Tolerant (set log 144 1) ∷ read_log Tolerant (set log 4095 1) ∷ [] ≡ reading ∷ reading ∷ [])
    × (map (next_by Zeros One (set log 144 1)) (5 ∷ 143 ∷ 0 ∷ 4096 ∷ []) ≡ next (clear 3) 14 ∷ stopped 27 ∷ stopped 8 ∷ stopped 6 ∷ [])
unfolding read_by next_at block marked slots_below all_zero
after_end_lem = (refl, refl, refl, refl)
