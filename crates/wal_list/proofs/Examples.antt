-- 01, 'Reading off a log', and 02, W-207: 01's example of `list`, and what the calls answer line by line, in both editions, computed.
-- Assumes nothing.
use mathlib.Core.Path.{◌≡◌, refl, ap, ap₂, ◌∙◌}
use mathlib.Core.Bool.{cond}
use mathlib.Core.List.{List, [], ◌∷◌, ◌++◌, map}
use Prim.Native.Nat.{ℕ, ◌-◌, ◌<◌}
use native.Mathlib.Omega.{arith}
use lib.Dec.{leb}
use lib.ListN.{length, get_or, take, set, replicate, length-replicate, get_or-replicate}
use Rattle.std.specs.Prelude.{Ok, Err}
use Rattle.answers.specs.Answers.{Answer, given, refused}
use Rattle.answers.specs.declared.Refusal.TheVariants.{LengthUnfit}
use Rattle.blocks.specs.Blocks.{block, put, flat}
use Rattle.blocks.proofs.Laws.{put_in, put_right}
use Rattle.page_diff.specs.Diff.{digit, marked, slots_below}
use Rattle.wal.specs.Log.{Entry, clear, update, edition_one, edition_two, start_record, end_record, record_of, records_of}
use Rattle.wal.specs.Reader.{start_in, next_at, clear_at, update_at, update_of, nodes_from, read_by}
use Rattle.wal.specs.declared.Edition.TheVariants.{One, Two}
use Rattle.wal.proofs.Examples.{log, seed, log_two_lem}
use Rattle.wal_list.specs.Lines.{ascii, digits_in, entry_lines, lines_of}
use Rattle.wal_list.specs.Shown.{more, last, Said, on, over, first_shown, shown_at, line_said, line_answer, line_after, lines_size, lines_answer, lines_after}
use Rattle.wal_list.specs.declared.Line.TheVariants as line

-- "For sync 7, clear 3, update of bucket 9 with two slots"
abbrev entries : List Entry
entries = clear 3 ∷ update (replicate 32 1) (5 ∷ 0 ∷ []) (replicate 32 2 ∷ replicate 32 3 ∷ []) (replicate 8 4) 9 ∷ []

listed : lines_of (start_record (edition_one 7) ++ records_of One entries ++ end_record One 143) ≡ ascii "0 start 7\n5 clear 3\n14 update 9 2\n143 end\n"
unfolding block digit marked slots_below flat record_of records_of start_in next_at clear_at update_at update_of nodes_from read_by digits_in entry_lines lines_of
listed = refl

-- "`list` (its lines unchanged)": of the same entries in edition two, at the offsets of their marks, and no seed
pub listed_two : lines_of (start_record (edition_two 7 seed) ++ records_of Two entries ++ end_record Two 162) ≡ ascii "0 start 7\n22 clear 3\n32 update 9 2\n162 end\n"
unfolding block digit marked slots_below flat record_of records_of start_in next_at clear_at update_at update_of nodes_from read_by digits_in entry_lines lines_of
listed_two = refl

-- no log; one byte more than 65,536; 5, 7; an unknown tag and a cut record, each at its offset
pub texts : map lines_of ([] ∷ replicate 65537 1 ∷ (1 ∷ []) ∷ replicate 4096 2 ∷ (1 ∷ replicate 4095 0) ∷ (1 ∷ 7 ∷ 0 ∷ 0 ∷ 0 ∷ (3 ∷ 4 ∷ replicate 7 0) ++ (4 ∷ (replicate 32 0 ++ (replicate 15 0xFF ++ (0x3F ∷ replicate 4033 0))))) ∷ [])
    ≡ ascii "empty\n" ∷ ascii "0 refused 2\n" ∷ ascii "0 refused 5\n" ∷ ascii "0 refused 7\n" ∷ ascii "0 start 0\n5 refused 8\n" ∷ ascii "0 start 7\n5 clear 4\n14 refused 6\n" ∷ []
unfolding lines_of start_in read_by next_at block marked slots_below digits_in entry_lines
texts = refl

-- edition two: a clear and the end; a bare tag where a mark should be; "a 0xB2 not followed by 1 is 7"
pub texts_two : map lines_of (log_two_lem ∷ (take 22 log_two_lem ++ (3 ∷ replicate 4073 0)) ∷ (0xB2 ∷ 2 ∷ replicate 4094 0) ∷ []) ≡ ascii "0 start 7\n22 clear 3\n32 end\n" ∷ ascii "0 start 7\n22 refused 8\n" ∷ ascii "0 refused 7\n" ∷ []
unfolding lines_of start_in read_by next_at block marked slots_below digits_in entry_lines
texts_two = refl

-- "`list` moves to the tolerant reader": a label after end is no refusal, in either edition
pub labelled : map lines_of (set log_two_lem 34 76 ∷ (1 ∷ 7 ∷ 0 ∷ 0 ∷ 0 ∷ 2 ∷ replicate 4090 76) ∷ []) ≡ ascii "0 start 7\n22 clear 3\n32 end\n" ∷ ascii "0 start 7\n5 end\n" ∷ []
unfolding lines_of start_in read_by next_at block marked slots_below digits_in entry_lines
labelled = refl

-- its lines one by one; at the log's last byte 0xB2 is 6, and any other byte 8
pub shown_two : map (shown_at log_two_lem) (0 ∷ 22 ∷ 32 ∷ 4095 ∷ []) ++ (shown_at (take 4095 log_two_lem ++ (0xB2 ∷ [])) 4095 ∷ [])
    ≡ more (ascii "0 start 7\n") 22 ∷ more (ascii "22 clear 3\n") 32 ∷ last (ascii "32 end\n") ∷ last (ascii "4095 refused 8\n") ∷ last (ascii "4095 refused 6\n") ∷ []
unfolding first_shown start_in next_at block marked slots_below digits_in
shown_two = refl

-- line by line into 80 bytes, of the log in `wal`'s examples: how long each line is, and where the next one is
abbrev line_of : ℕ → Answer Said
line_of at = line_answer (replicate 80 6) (shown_at log at)

pub lines : line_of 0 ∷ line_of 5 ∷ line_of 14 ∷ line_of 143 ∷ line_of 144 ∷ line_answer (replicate 79 6) (shown_at log 0) ∷ []
    ≡ given (on 10 5) ∷ given (on 10 14) ∷ given (on 14 143) ∷ given (over 8) ∷ given (over 14) ∷ refused 2 ∷ []
unfolding first_shown start_in next_at block marked slots_below digits_in
lines = refl

pub filled : map (λ at. line_after (replicate 80 6) (shown_at log at)) (14 ∷ 144 ∷ []) ++ (line_after (6 ∷ []) (shown_at log 0) ∷ []) ≡ (ascii "14 update 9 2\n" ++ replicate 66 6) ∷ (ascii "144 refused 8\n" ++ replicate 66 6) ∷ (6 ∷ []) ∷ []
unfolding first_shown start_in next_at block marked slots_below digits_in put
filled = refl

-- all lines at once: the memory that any log's lines need, and one byte less
pub all_at_once : lines_answer (replicate 262304 6) log ∷ lines_answer (replicate 262303 6) log ∷ [] ≡ given 42 ∷ refused 2 ∷ []
unfolding lines_of start_in read_by next_at block marked slots_below digits_in entry_lines
all_at_once =
    ap₂ (λ (a b : ℕ). cond (leb lines_size a) (given (length (lines_of log))) (refused 2) ∷ cond (leb lines_size b) (given (length (lines_of log))) (refused 2) ∷ [])
    (length-replicate {A = ℕ} 262304 6) (length-replicate {A = ℕ} 262303 6)

-- and that memory: its lines' first bytes and their last one, and what stood after them
memory_is : lines_after (replicate 262304 6) log ≡ put (replicate 262304 6) 0 (lines_of log)
memory_is = ap (λ (n : ℕ). cond (leb lines_size n) (put (replicate 262304 6) 0 (lines_of log)) (replicate 262304 6)) (length-replicate {A = ℕ} 262304 6)

lines_long : length (lines_of log) ≡ 42
unfolding lines_of start_in read_by next_at block marked slots_below digits_in entry_lines
lines_long = refl

in_lines : (j : ℕ) → j < 42 → get_or (lines_after (replicate 262304 6) log) j 0 ≡ get_or (lines_of log) (j - 0) 0
in_lines j l =
    ap (λ (m : List ℕ). get_or m j 0) memory_is
    ∙ put_in (replicate 262304 6) 0 (lines_of log) j (omega (arith, lines_long, length-replicate {A = ℕ} 262304 6)) (omega arith) (omega (arith, lines_long))

after_lines : get_or (lines_after (replicate 262304 6) log) 42 0 ≡ 6
after_lines =
    ap (λ (m : List ℕ). get_or m 42 0) memory_is
    ∙ put_right (replicate 262304 6) 0 (lines_of log) 42 (omega (arith, lines_long)) ∙ get_or-replicate {A = ℕ} 262304 42 6 0 (omega arith)

pub into_memory : map (λ j. get_or (lines_after (replicate 262304 6) log) j 0) (0 ∷ 2 ∷ 41 ∷ 42 ∷ []) ≡ 48 ∷ 115 ∷ 10 ∷ 6 ∷ []
unfolding lines_of start_in read_by next_at block marked slots_below digits_in entry_lines
into_memory = four (in_lines 0 (omega arith)) (in_lines 2 (omega arith)) (in_lines 41 (omega arith)) after_lines
  where
    four : {a b c d x y z w : ℕ} → a ≡ x → b ≡ y → c ≡ z → d ≡ w → a ∷ b ∷ c ∷ d ∷ [] ≡ x ∷ y ∷ z ∷ w ∷ []
    four p q r s = cc

-- each case of the code's answer
pub said : map line_said (Ok (line.More 10 5) ∷ Ok (line.Last 8) ∷ Err LengthUnfit ∷ []) ≡ given (on 10 5) ∷ given (over 8) ∷ refused 2 ∷ []
said = refl
