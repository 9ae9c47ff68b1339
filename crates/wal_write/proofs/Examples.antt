-- 01, 'Writer': what each call that writes a record answers and leaves, each refusal with its number, in literals; and
-- "capacity 4,096: 454 clears fit, the next is 13", of any slice of that capacity and any buckets. Assumes nothing.
use mathlib.Core.Path.{◌≡◌, refl, ap, ap₂, ◌∙◌}
use mathlib.Core.Bool.{Bool, true, false, cond, ◌&&◌}
use mathlib.Core.List.{List, [], ◌∷◌, ◌++◌}
use Prim.Native.Nat.{ℕ, suc, ◌+◌, ◌*◌, ◌^◌, ◌≤◌, ◌<◌}
use native.Mathlib.Nat.{mul-suc}
use native.Mathlib.Omega.{arith}
use lib.ListN.{length, replicate}
use borrow.Author.Tests.{le-leb, lt-leb}
use Rattle.answers.specs.Answers.{Answer, given, refused, accepted}
use Rattle.blocks.specs.Blocks.{block, put, flat}
use Rattle.page_diff.specs.Diff.{marked, slots_below}
use Rattle.wal.specs.Log.{clear, mark_size, edition_one, edition_two, record_of, start_record, start_size, clear_size}
use Rattle.wal.specs.Writer.{open_at, capacity, position, edition_of, begin_answer, begin_writer, begin_log, clear_answer, update_answer, finish_answer, finish_log}
use Rattle.wal.specs.declared.Edition.{Edition}
use Rattle.wal.specs.declared.Edition.TheVariants.{One, Two}
use Rattle.wal.specs.declared.Start.{Start}
use Rattle.wal.specs.declared.Writer.{Writer}
use Rattle.wal.specs.declared.Writer.TheVariants.{Fresh, Finished}
use Rattle.wal.proofs.Examples.{slice, seed}
use Rattle.wal.proofs.RoundTrip.{same_capacity}
use Rattle.wal_write.specs.Calls.{room_in, clear_writer, clear_log, update_writer, update_log, page_update_answer, page_update_writer, page_update_log}
use Rattle.wal_write.proofs.CallLaws.{begin_given, clear_tests, taken, no_room}
use Rattle.wal_write.proofs.WriterLaws.{same_length}

-- a writer and its log; after a begin; after a clear; after a clear of each of some buckets
pub record At : Type 0 where
  pub writer : Writer
  pub log : List ℕ

abbrev pub begun : At → Start → At
begun s start = record { writer = begin_writer s.log s.writer start.edition; log = begin_log s.log start }

abbrev pub cleared : At → ℕ → At
cleared s b = record { writer = clear_writer s.log s.writer; log = clear_log s.log s.writer b }

unfoldable pub all_cleared : At → List ℕ → At
all_cleared s [] = s
all_cleared s (b ∷ bs) = all_cleared (cleared s b) bs

-- what the next clear answers, and whether each of some clears is taken
abbrev pub next_clear : At → Answer (Unit {0})
next_clear s = clear_answer s.log s.writer

unfoldable pub all_taken : At → List ℕ → Bool
all_taken s [] = true
all_taken s (b ∷ bs) = accepted (next_clear s) && all_taken (cleared s b) bs

-- an open writer in a log of so many whole bytes
pub record Stands (s : At) (ed : Edition) (pos cap : ℕ) : Type 0 where
  pub is_open : s.writer ≡ open_at ed pos
  pub whole : capacity s.log ≡ cap

module _ (s : At) (ed : Edition) (pos cap : ℕ) (h : Stands s ed pos cap) where
  clear_taken : pos + clear_size ed + mark_size ed ≤ cap → next_clear s ≡ given tt
  clear_taken l =
      clear_tests s.log s.writer
      ∙ taken s.log s.writer true false clear_size (given tt) ed pos h.is_open refl refl (le-leb (pos + clear_size ed + mark_size ed) (capacity s.log) (omega (arith, h.whole)))

  clear_refused : cap < pos + clear_size ed + mark_size ed → next_clear s ≡ refused 13
  clear_refused l =
      clear_tests s.log s.writer
      ∙ no_room s.log s.writer true false clear_size (given tt) ed pos h.is_open refl refl (lt-leb (pos + clear_size ed + mark_size ed) (capacity s.log) (omega (arith, h.whole)))

  clear_moves : (b : ℕ) → pos + clear_size ed + mark_size ed ≤ cap → Stands (cleared s b) ed (pos + clear_size ed) cap
  clear_moves b l = record {
    is_open =
        ap (λ (a : Answer (Unit {0})). cond (accepted a) (open_at (edition_of s.writer) (position s.writer + clear_size (edition_of s.writer))) s.writer) (clear_taken l)
        ∙ ap (λ (v : Writer). open_at (edition_of v) (position v + clear_size (edition_of v))) h.is_open;
    whole = same_capacity (clear_log s.log s.writer b) s.log (same_length (next_clear s) s.log (position s.writer) (record_of (edition_of s.writer) (clear b))) ∙ h.whole;
  }

clears_fit : (bs : List ℕ) (s : At) (ed : Edition) (pos cap : ℕ) → Stands s ed pos cap → pos + clear_size ed * length bs + mark_size ed ≤ cap
    → (all_taken s bs ≡ true) × Stands (all_cleared s bs) ed (pos + clear_size ed * length bs) cap
unfolding all_taken all_cleared
clears_fit [] s ed pos cap h l = let z : pos ≡ pos + clear_size ed * 0 = omega arith in (refl, record { is_open = h.is_open ∙ ap (open_at ed) z; whole = h.whole })
clears_fit (b ∷ bs) s ed pos cap h l =
    let more : clear_size ed * suc (length bs) ≡ clear_size ed * length bs + clear_size ed = mul-suc (clear_size ed) (length bs) in
    let fits : pos + clear_size ed + clear_size ed * length bs + mark_size ed ≤ cap = omega arith in
    let rest = clears_fit bs (cleared s b) ed (pos + clear_size ed) cap (clear_moves s ed pos cap h b (omega arith)) fits in
    let z : pos + clear_size ed + clear_size ed * length bs ≡ pos + clear_size ed * suc (length bs) = omega arith in (
      ap₂ (λ (x y : Bool). x && y) (ap accepted (clear_taken s ed pos cap h (omega arith))) rest.0,
      record { is_open = rest.1.is_open ∙ ap (open_at ed) z; whole = rest.1.whole },
    )

-- as many clears as fit a page, in either edition
clears_fill : (s : At) (start : Start) (bs : List ℕ) → capacity s.log ≡ 4096 → start_size start.edition + clear_size start.edition * length bs + mark_size start.edition ≤ 4096
    → 4096 < start_size start.edition + clear_size start.edition * length bs + clear_size start.edition + mark_size start.edition
    → (all_taken (begun s start) bs ≡ true) × (next_clear (all_cleared (begun s start) bs) ≡ refused 13)
clears_fill s start bs e fits full =
    let ed : Edition = start.edition in
    let begins : begin_answer s.log ≡ given tt = begin_given s.log (omega arith) in
    let stands : Stands (begun s start) ed (start_size ed) 4096 = record {
      is_open = ap (λ (a : Answer (Unit {0})). cond (accepted a) (open_at ed (start_size ed)) s.writer) begins;
      whole = same_capacity (begin_log s.log start) s.log (same_length (begin_answer s.log) s.log 0 (start_record start)) ∙ e;
    } in
    let all = clears_fit bs (begun s start) ed (start_size ed) 4096 stands fits in
    (all.0, clear_refused (all_cleared (begun s start) bs) ed (start_size ed + clear_size ed * length bs) 4096 all.1 full)

pub clears_by_hand : (s : At) (sync : ℕ) (bs : List ℕ) → capacity s.log ≡ 4096 → length bs ≡ 454
    → (all_taken (begun s (edition_one sync)) bs ≡ true) × (next_clear (all_cleared (begun s (edition_one sync)) bs) ≡ refused 13)
clears_by_hand s sync bs e n = clears_fill s (edition_one sync) bs e (omega arith) (omega arith)

-- of edition two 407 fit
pub clears_by_hand_two : (s : At) (sync : ℕ) (seed bs : List ℕ) → capacity s.log ≡ 4096 → length bs ≡ 407
    → (all_taken (begun s (edition_two sync seed)) bs ≡ true) × (next_clear (all_cleared (begun s (edition_two sync seed)) bs) ≡ refused 13)
clears_by_hand_two s sync seed bs e n = clears_fill s (edition_two sync seed) bs e (omega arith) (omega arith)

-- ---- in literals: a page with 2s in slot 0, 4s for the elided children, 8s for the id; a table with two nodes and nines
abbrev page : List ℕ
page = replicate 32 2 ++ (replicate 4024 0 ++ (replicate 8 4 ++ replicate 32 8))

abbrev table : List (List ℕ)
table = replicate 32 7 ∷ replicate 32 8 ∷ replicate 124 (replicate 32 9)

-- "12, 2, 4, 13", of an update that is lent its page
pub page_updates : page_update_answer (slice 4096) Fresh (0 ∷ (2 ^ 62) ∷ []) [] ∷ page_update_answer (slice 4096) (Finished 4096) (1 ∷ 0 ∷ []) page ∷ page_update_answer (slice 4096) (open_at One 5) (0 ∷ (2 ^ 62) ∷ []) []
    ∷ page_update_answer (slice 4096) (open_at One 5) (0 ∷ (2 ^ 62) ∷ []) page ∷ page_update_answer (slice 4096) (open_at One 5) (0 ∷ (2 ^ 63) ∷ []) page
    ∷ page_update_answer (slice 4096) (open_at One 3999) (1 ∷ 0 ∷ []) page ∷ page_update_answer (slice 4096) (open_at One 3998) (1 ∷ 0 ∷ []) page ∷ []
    ≡ refused 12 ∷ refused 12 ∷ refused 2 ∷ refused 4 ∷ refused 4 ∷ refused 13 ∷ given tt ∷ []
unfolding page_update_answer marked slots_below
page_updates = refl

pub rooms : room_in 8191 (open_at One 4086) 8 ∷ room_in 8191 (open_at One 4087) 8 ∷ room_in 8191 (open_at Two 4084) 8 ∷ room_in 8191 (open_at Two 4085) 8 ∷ [] ≡ true ∷ false ∷ true ∷ false ∷ []
rooms = refl

-- the states after a clear, an update of two slots and one of a page; refused ones keep theirs
pub states : clear_writer (slice 4096) (open_at One 5) ∷ update_writer (slice 4096) (open_at One 5) (5 ∷ 0 ∷ []) 2 ∷ page_update_writer (slice 4096) (open_at One 5) (1 ∷ 0 ∷ []) page
    ∷ clear_writer (slice 4096) (Finished 4096) ∷ update_writer (slice 4096) (open_at One 5) (5 ∷ 0 ∷ []) 1 ∷ page_update_writer (slice 4096) Fresh (1 ∷ 0 ∷ []) page ∷ []
    ≡ open_at One 14 ∷ open_at One 134 ∷ open_at One 102 ∷ Finished 4096 ∷ open_at One 5 ∷ Fresh ∷ []
unfolding clear_answer update_answer page_update_answer marked slots_below
states = refl

-- the log of 6s with these bytes at 5
abbrev at5 : List ℕ → ℕ → List ℕ
at5 bytes after = replicate 5 6 ++ (bytes ++ replicate after 6)

-- the logs after them: of the table the count's nodes alone, of the page its marked node and the elided bytes at 4056
pub logs : clear_log (slice 4096) (open_at One 5) 0x0201 ∷ update_log (slice 4096) (open_at One 5) (replicate 32 1) (5 ∷ 0 ∷ []) table 2 (replicate 8 3) 0x0201
    ∷ page_update_log (slice 4096) (open_at One 5) (replicate 32 1) (1 ∷ 0 ∷ []) page 0x0201 ∷ update_log (slice 4096) (open_at One 5) (replicate 32 1) (5 ∷ 0 ∷ []) table 1 (replicate 8 3) 0x0201 ∷ []
    ≡ at5 (3 ∷ 1 ∷ 2 ∷ replicate 6 0) 4082
    ∷ at5 (4 ∷ (replicate 32 1 ++ (5 ∷ (replicate 15 0 ++ (replicate 32 7 ++ (replicate 32 8 ++ (replicate 8 3 ++ (1 ∷ 2 ∷ replicate 6 0)))))))) 3962
    ∷ at5 (4 ∷ (replicate 32 1 ++ (1 ∷ (replicate 15 0 ++ (replicate 32 2 ++ (replicate 8 4 ++ (1 ∷ 2 ∷ replicate 6 0))))))) 3994 ∷ slice 4096 ∷ []
unfolding clear_answer update_answer page_update_answer marked slots_below put record_of flat block
logs = refl

-- a whole run of edition two: begin, a clear of bucket 3, the update of the page, finish; the byte past the log stays
pub run_two : finish_log (page_update_log (clear_log (begin_log (slice 4097) (edition_two 7 seed)) (open_at Two 22) 3) (open_at Two 32) (replicate 32 1) (1 ∷ 0 ∷ []) page 9) (open_at Two 130)
    ≡ 0xB2 ∷ 1 ∷ 7 ∷ 0 ∷ 0 ∷ 0 ∷ (seed
    ++ (0xB2 ∷ 3 ∷ 3 ∷ (replicate 7 0
    ++ (0xB2 ∷ 4 ∷ (replicate 32 1 ++ (1 ∷ (replicate 15 0 ++ (replicate 32 2 ++ (replicate 8 4 ++ (9 ∷ (replicate 7 0 ++ (0xB2 ∷ 2 ∷ (replicate 3964 0 ++ (6 ∷ []))))))))))))))
unfolding begin_answer clear_answer page_update_answer finish_answer marked slots_below put record_of flat block
run_two = refl
