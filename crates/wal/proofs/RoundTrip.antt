-- The round trip: a log that accepted calls wrote and finish closed reads back as its sync number and exactly the entries written, in
-- order, then end; the reader never refuses it. Assumes nothing.
use mathlib.Core.Path.{◌≡◌, refl, sym, ap, ap₂, ◌∙◌, subst, subst₂}
use mathlib.Core.Bool.{Bool, true, false, cond, true≢false}
use mathlib.Core.List.{List, [], ◌∷◌, ◌++◌, append_assoc, append-nil}
use Prim.Native.Nat.{ℕ, zero, suc, ◌+◌, ◌-◌, ◌*◌, ◌/◌, ◌%◌, ◌≤◌}
use native.Mathlib.Nat.{mul-mod_left}
use native.Mathlib.Omega.{arith}
use lib.Dec.{leb, eqb}
use lib.ListN.{length, take, drop, replicate, length-append, length-replicate}
use lib.Seq.{take_at, drop_at}
use borrow.Author.Tests.{le-leb, leb-true, eq-eqb, ne_eqb}
use Rattle.answers.specs.Answers.{Answer, given, refused, accepted}
use Rattle.blocks.specs.Blocks.{le, bytes_of, block, put, all_zero}
use Rattle.blocks.proofs.Laws.{bytes-length, le-bytes_of, put-length, put_fits, put-append}
use Rattle.blocks.proofs.Zeros.{zeros-replicate}
use Rattle.page_diff.specs.Diff.{count_of, reserved}
use Rattle.wal.specs.Log.{Entry, clear, update, mark, mark_size, seed_part, seed_size, record_of, records_of, start_record, start_size, clear_size, update_size, finished_length, end_record}
use Rattle.wal.specs.Reader.{edition_at, marks_at, start_in, start_of, seed_of, Next, next_at, wanted, Reading, stop_at, and_then, read_on, read_in, read_by, read_after_start, read_log}
use Rattle.wal.specs.Writer.{open_at, capacity, position, edition_of, if_open, if_room, begin_answer, clear_answer, update_answer, record_log, record_writer, finish_answer, finish_log}
use Rattle.wal.specs.Run.{WideStart, WellFormed, Run, begun, with_clear, with_update, end_of, log_of}
use Rattle.wal.specs.declared.AfterEnd.{AfterEnd}
use Rattle.wal.specs.declared.AfterEnd.TheVariants.{Zeros, Tolerant}
use Rattle.wal.specs.declared.Edition.{Edition}
use Rattle.wal.specs.declared.Edition.TheVariants.{One, Two}
use Rattle.wal.specs.declared.Start.{Start}
use Rattle.wal.specs.declared.Writer.{Writer}
use Rattle.wal.proofs.Endings.{log_agrees}
use Rattle.wal.proofs.Records.{block_in, mark-length, mark_some, mark_small, clear-length, update-length, record-length, next_record, next_end}

-- every entry is one that a call can hand over
pub data AllWellFormed : List Entry → Type 0 where
  none : AllWellFormed []
  more : {e : Entry} {es : List Entry} → WellFormed e → AllWellFormed es → AllWellFormed (e ∷ es)

-- ---- reading records that stand one after the other, up to an end
pub records-length : (ed : Edition) (es : List Entry) → AllWellFormed es → length es ≤ length (records_of ed es)
unfolding records_of
records-length ed [] none = omega arith
records-length ed (e ∷ es) (more h hs) = omega (arith, length-append (record_of ed e) (records_of ed es), record-length ed e h, records-length ed es hs)

abbrev read_as : List Entry → ℕ → Reading
read_as es at = record { entries = es; at = at; stop = given tt }

-- with fuel for each entry
read_records : (ed : Edition) (f : ℕ) (pre post : List ℕ) (es : List Entry) → AllWellFormed es → length es ≤ f
    → read_in Tolerant ed f (pre ++ (records_of ed es ++ (mark ed 2 ++ post))) (length pre) ≡ read_as es (length pre + length (records_of ed es))
unfolding read_by records_of
read_records ed zero pre post [] none l =
    let z : length pre ≡ length pre + 0 = omega arith in
    ap (λ (x : Next). read_on x (length pre) (λ p. stop_at p (refused 6))) (next_end ed pre post) ∙ ap (read_as []) z
read_records ed (suc f) pre post [] none l =
    let z : length pre ≡ length pre + 0 = omega arith in
    ap (λ (x : Next). read_on x (length pre) (λ p. read_in Tolerant ed f (pre ++ (mark ed 2 ++ post)) p)) (next_end ed pre post) ∙ ap (read_as []) z
read_records ed zero pre post (e ∷ es) (more h hs) l = absurd (omega arith)
read_records ed (suc f) pre post (e ∷ es) (more h hs) l =
    let tail : List ℕ = records_of ed es ++ (mark ed 2 ++ post) in
    let log : List ℕ = pre ++ ((record_of ed e ++ records_of ed es) ++ (mark ed 2 ++ post)) in
    let split : log ≡ pre ++ (record_of ed e ++ tail) = ap (λ (x : List ℕ). pre ++ x) (append_assoc (record_of ed e) (records_of ed es) (mark ed 2 ++ post)) in
    let shift : log ≡ (pre ++ record_of ed e) ++ tail = split ∙ sym (append_assoc pre (record_of ed e) tail) in
    let here : length pre + length (record_of ed e) ≡ length (pre ++ record_of ed e) = sym (length-append pre (record_of ed e)) in
    let far : length (pre ++ record_of ed e) + length (records_of ed es) ≡ length pre + length (record_of ed e ++ records_of ed es) = omega (arith, length-append pre (record_of ed e), length-append (record_of ed e) (records_of ed es)) in
    ap (λ (x : Next). read_on x (length pre) (λ p. read_in Tolerant ed f log p)) (ap (λ (x : List ℕ). next_at ed x (length pre)) split ∙ next_record ed pre tail e h)
    ∙ ap (and_then e) (ap₂ (λ (x : List ℕ) (p : ℕ). read_in Tolerant ed f x p) shift here ∙ read_records ed f (pre ++ record_of ed e) post es hs (omega arith) ∙ ap (read_as es) far)

-- ---- the widths of a start and of an end
pub seed-length : (start : Start) → WideStart start → length (seed_part start.edition start.seed) ≡ seed_size start.edition
seed-length start wide = go start.edition
  where
    go : (ed : Edition) → length (seed_part ed start.seed) ≡ seed_size ed
    go One = refl
    go Two = wide.seed_long

pub start-length : (start : Start) → WideStart start → length (start_record start) ≡ start_size start.edition
start-length start wide =
    let ed : Edition = start.edition in
    omega (
      arith,
      length-append (mark ed 1) (bytes_of 4 start.sync ++ seed_part ed start.seed),
      mark-length ed 1,
      length-append (bytes_of 4 start.sync) (seed_part ed start.seed),
      bytes-length 4 start.sync,
      seed-length start wide,
    )

end-length : (ed : Edition) (pos : ℕ) → length (end_record ed pos) ≡ finished_length ed pos - pos
end-length ed pos =
    let z : ℕ = finished_length ed pos - (pos + mark_size ed) in
    omega (arith, length-append (mark ed 2) (replicate z 0), mark-length ed 2, mark_small ed, length-replicate {A = ℕ} z 0)

-- the first byte of a start tells its edition, and its mark stands there
pub edition_in : (ed : Edition) (rest : List ℕ) → edition_at (mark ed 1 ++ rest) ≡ ed
edition_in One rest = refl
edition_in Two rest = refl

starts_in : (ed : Edition) (rest : List ℕ) → marks_at ed (mark ed 1 ++ rest) 0 1 ≡ true
starts_in One rest = refl
starts_in Two rest = refl

-- ---- a start, whatever comes after it
module _ (start : Start) (rest : List ℕ) where
  abbrev ed : Edition
  ed = start.edition

  abbrev started : List ℕ
  started = start_record start ++ rest

  pub edition_told : edition_at (start_record start ++ rest) ≡ start.edition
  edition_told =
      ap edition_at (append_assoc (mark ed 1) (bytes_of 4 start.sync ++ seed_part ed start.seed) rest)
      ∙ edition_in ed ((bytes_of 4 start.sync ++ seed_part ed start.seed) ++ rest)

  module _ (wide : WideStart start) where
    start_in_lem : length started % 4096 ≡ 0 → start_in ed started ≡ given start.sync
    unfolding start_in
    start_in_lem pages =
        let after : List ℕ = (bytes_of 4 start.sync ++ seed_part ed start.seed) ++ rest in
        let split : started ≡ mark ed 1 ++ after = append_assoc (mark ed 1) (bytes_of 4 start.sync ++ seed_part ed start.seed) rest in
        let long : length started ≡ start_size ed + length rest = length-append (start_record start) rest ∙ ap (λ (n : ℕ). n + length rest) (start-length start wide) in
        let number : le (block 4 started (mark_size ed)) ≡ start.sync =
        ap le (block_in 4 started (mark_size ed) (mark ed 1) (bytes_of 4 start.sync) (seed_part ed start.seed ++ rest) (simp append_assoc) (sym (mark-length ed 1)) (bytes-length 4 start.sync))
        ∙ le-bytes_of 4 start.sync wide.number in
        ap (λ (t : Bool). cond t (cond (eqb (length started) 0) (refused 6) (cond (marks_at ed started 0 1) (given (le (block 4 started (mark_size ed)))) (refused 7))) (refused 5)) (eq-eqb (length started % 4096) 0 pages)
        ∙ ap (λ (t : Bool). cond t (refused 6) (cond (marks_at ed started 0 1) (given (le (block 4 started (mark_size ed)))) (refused 7))) (ne_eqb (length started) 0 (λ z. omega (arith, long, mark_some ed)))
        ∙ ap (λ (t : Bool). cond t (given (le (block 4 started (mark_size ed)))) (refused 7)) (ap (λ (l : List ℕ). marks_at ed l 0 1) split ∙ starts_in ed after)
        ∙ ap given number

    -- "gives the sync number"
    pub start_told : length (start_record start ++ rest) % 4096 ≡ 0 → start_of (start_record start ++ rest) ≡ given start.sync
    start_told pages = ap (λ (e : Edition). start_in e started) edition_told ∙ start_in_lem pages

    -- the seed of edition two
    pub seed_told : start.edition ≡ Two → seed_of (start_record start ++ rest) ≡ start.seed
    unfolding seed_of
    seed_told two =
        let split : started ≡ (mark Two 1 ++ bytes_of 4 start.sync) ++ (start.seed ++ rest) =
        ap (λ (e : Edition). (mark e 1 ++ (bytes_of 4 start.sync ++ seed_part e start.seed)) ++ rest) two ∙ simp append_assoc in
        block_in 16 started 6 (mark Two 1 ++ bytes_of 4 start.sync) start.seed rest split refl wide.seed_long

-- ---- a whole log
module _ (start : Start) (es : List Entry) where
  abbrev its_edition : Edition
  its_edition = start.edition

  abbrev after_start_lem : List ℕ
  after_start_lem = records_of its_edition es ++ end_record its_edition (end_of start es)

  pub edition_back : edition_at (log_of start es) ≡ start.edition
  edition_back = edition_told start after_start_lem

  module _ (wide : WideStart start) where
    pub log-length : length (log_of start es) ≡ finished_length start.edition (end_of start es)
    log-length =
        omega (
          arith,
          length-append (start_record start) after_start_lem,
          length-append (records_of its_edition es) (end_record its_edition (end_of start es)),
          start-length start wide,
          end-length its_edition (end_of start es),
        )

    pub start_back : start_of (log_of start es) ≡ given start.sync
    start_back = start_told start after_start_lem wide (ap (λ (n : ℕ). n % 4096) log-length ∙ mul-mod_left ((end_of start es + mark_size its_edition + 4095) / 4096) 4096)

    pub seed_back : start.edition ≡ Two → seed_of (log_of start es) ≡ start.seed
    seed_back two = seed_told start after_start_lem wide two

    -- "A finished log reads back as exactly the entries written"
    read_back : AllWellFormed es → read_after_start Tolerant its_edition (log_of start es) ≡ record { entries = es; at = end_of start es; stop = given tt }
    read_back hs =
        let pos : ℕ = end_of start es in
        let zeros : List ℕ = replicate (finished_length its_edition pos - (pos + mark_size its_edition)) 0 in
        ap (λ (p : ℕ). read_in Tolerant its_edition (length (log_of start es)) (log_of start es) p) (sym (start-length start wide))
        ∙ read_records its_edition (length (log_of start es)) (start_record start) zeros es hs (omega (arith, records-length its_edition es hs, log-length))
        ∙ ap (λ (n : ℕ). read_as es (n + length (records_of its_edition es))) (start-length start wide)

    -- by a tolerant reader, and by one that wants zeros after end, since zeros stand there
    tolerant_back : AllWellFormed es → read_log Tolerant (log_of start es) ≡ record { entries = es; at = end_of start es; stop = given tt }
    tolerant_back hs = ap (λ (e : Edition). read_after_start Tolerant e (log_of start es)) edition_back ∙ read_back hs

    zeros_follow : (rule : AfterEnd) → wanted rule (log_of start es) (end_of start es + mark_size its_edition) ≡ true
    zeros_follow Tolerant = refl
    zeros_follow Zeros =
        let pos : ℕ = end_of start es in
        let zeros : List ℕ = replicate (finished_length its_edition pos - (pos + mark_size its_edition)) 0 in
        let before : List ℕ = start_record start ++ (records_of its_edition es ++ mark its_edition 2) in
        let split : log_of start es ≡ before ++ zeros = simp append_assoc in
        let long : length before ≡ pos + mark_size its_edition =
        omega (arith, length-append (start_record start) (records_of its_edition es ++ mark its_edition 2), start-length start wide, length-append (records_of its_edition es) (mark its_edition 2), mark-length its_edition 2) in
        ap all_zero (ap (drop (pos + mark_size its_edition)) split ∙ drop_at before zeros (pos + mark_size its_edition) long) ∙ zeros-replicate (finished_length its_edition pos - (pos + mark_size its_edition))

    pub entries_back : (rule : AfterEnd) → AllWellFormed es → read_log rule (log_of start es) ≡ record { entries = es; at = end_of start es; stop = given tt }
    entries_back rule hs =
        let t = tolerant_back hs in
        log_agrees rule (log_of start es) (ap₂ (λ (r : Reading) (e : Edition). wanted rule (log_of start es) (r.at + mark_size e)) t edition_back ∙ zeros_follow rule) ∙ t

-- ---- runs of accepted calls
pub records-snoc : (ed : Edition) (es : List Entry) (e : Entry) → records_of ed (es ++ (e ∷ [])) ≡ records_of ed es ++ record_of ed e
unfolding records_of
records-snoc ed [] e = append-nil (record_of ed e)
records-snoc ed (x ∷ es) e = ap (λ (l : List ℕ). record_of ed x ++ l) (records-snoc ed es e) ∙ sym (append_assoc (record_of ed x) (records_of ed es) (record_of ed e))

all_snoc : (es : List Entry) (e : Entry) → AllWellFormed es → WellFormed e → AllWellFormed (es ++ (e ∷ []))
all_snoc [] e none h = more h none
all_snoc (x ∷ es) e (more k hs) h = more k (all_snoc es e hs h)

-- what a run has made: an open writer after the records, which stand at the start of the slice with room for an end
pub record Made (log₀ : List ℕ) (start : Start) (w : Writer) (log : List ℕ) (es : List Entry) : Type 0 where
  pub wide : WideStart start
  pub all : AllWellFormed es
  pub is_open : w ≡ open_at start.edition (end_of start es)
  pub same_log : log ≡ put log₀ 0 (start_record start ++ records_of start.edition es)
  pub room : end_of start es + mark_size start.edition ≤ capacity log₀

-- an answer that was accepted by a test of room
room_held : {A : Type 0} (t : Bool) (a : A) (n : ℕ) → accepted (cond t (given a) (refused n)) ≡ true → t ≡ true
room_held true a n e = refl
room_held false a n e = absurd (true≢false (sym e))

capacity_most : (log : List ℕ) → capacity log ≤ length log
capacity_most log = omega arith

pub same_capacity : (a b : List ℕ) → length a ≡ length b → capacity a ≡ capacity b
same_capacity a b e = ap (λ (n : ℕ). n / 4096 * 4096) e

-- one record more
module _ (log₀ : List ℕ) (start : Start) (log : List ℕ) (es : List Entry) (e : Entry) (h : WellFormed e) where
  abbrev its : Edition
  its = start.edition

  grown : (pos : ℕ) → WideStart start → AllWellFormed es → pos ≡ end_of start es → log ≡ put log₀ 0 (start_record start ++ records_of start.edition es)
      → pos + length (record_of start.edition e) + mark_size start.edition ≤ capacity log
      → Made log₀ start (open_at start.edition (pos + length (record_of start.edition e))) (put log pos (record_of start.edition e)) (es ++ (e ∷ []))
  grown pos wide hs at_end made fits =
      let long : length log ≡ length log₀ = ap length made ∙ put-length log₀ 0 (start_record start ++ records_of its es) in
      let done : length (start_record start ++ records_of its es) ≡ pos = length-append (start_record start) (records_of its es) ∙ ap (λ (n : ℕ). n + length (records_of its es)) (start-length start wide) ∙ sym at_end in
      let count : length (records_of its (es ++ (e ∷ []))) ≡ length (records_of its es) + length (record_of its e) = ap length (records-snoc its es e) ∙ length-append (records_of its es) (record_of its e) in
      let place : pos ≡ 0 + length (start_record start ++ records_of its es) = omega arith in
      record {
        wide = wide;
        all = all_snoc es e hs h;
        is_open = ap (open_at its) (omega arith);
        same_log =
            ap₂ (λ (l : List ℕ) (p : ℕ). put l p (record_of its e)) made place
            ∙ put-append log₀ 0 (start_record start ++ records_of its es) (record_of its e) (omega (arith, capacity_most log))
            ∙ ap (put log₀ 0) (append_assoc (start_record start) (records_of its es) (record_of its e) ∙ ap (λ (l : List ℕ). start_record start ++ l) (sym (records-snoc its es e)));
        room = omega (arith, same_capacity log log₀ long);
      }

-- a record that was accepted had room, also for the end after it
pub clear_room : (ed : Edition) (log : List ℕ) (pos : ℕ) → accepted (clear_answer log (open_at ed pos)) ≡ true → pos + clear_size ed + mark_size ed ≤ capacity log
unfolding clear_answer
clear_room ed log pos ok = leb-true (pos + clear_size ed + mark_size ed) (capacity log) (room_held (leb (pos + clear_size ed + mark_size ed) (capacity log)) tt 13 ok)

pub update_room : (ed : Edition) (log : List ℕ) (ws : List ℕ) (held pos : ℕ) → accepted (update_answer log (open_at ed pos) ws held) ≡ true → pos + update_size ed held + mark_size ed ≤ capacity log
unfolding update_answer
update_room ed log ws held pos ok =
    leb-true (pos + update_size ed held + mark_size ed) (capacity log) (through (eqb held (count_of ws)) (reserved ws) (leb (pos + update_size ed held + mark_size ed) (capacity log)) ok)
  where
    through : (a b c : Bool) → accepted {A = Unit {0}} (cond a (cond b (refused 4) (cond c (given tt) (refused 13))) (refused 2)) ≡ true → c ≡ true
    through true true c e = absurd (true≢false (sym e))
    through true false c e = room_held c tt 13 e
    through false b c e = absurd (true≢false (sym e))

-- one accepted call more
record_step : (log₀ : List ℕ) (start : Start) (w : Writer) (log : List ℕ) (es : List Entry) (e : Entry) → WellFormed e → (a : Writer → Answer (Unit {0})) (size : Edition → ℕ)
    → ((ed : Edition) → size ed ≡ length (record_of ed e)) → ((ed : Edition) (pos : ℕ) → accepted (a (open_at ed pos)) ≡ true → pos + size ed + mark_size ed ≤ capacity log)
    → Made log₀ start w log es → accepted (a w) ≡ true
    → Made log₀ start (record_writer (a w) w (size (edition_of w))) (record_log (a w) log w (record_of (edition_of w) e)) (es ++ (e ∷ []))
record_step log₀ start w log es e h a size long room made ok =
    subst (λ (v : Writer). accepted (a v) ≡ true → Made log₀ start (record_writer (a v) v (size (edition_of v))) (record_log (a v) log v (record_of (edition_of v) e)) (es ++ (e ∷ []))) (sym made.is_open) at_open ok
  where
    ed : Edition
    ed = start.edition

    pos : ℕ
    pos = end_of start es

    at_open : accepted (a (open_at ed pos)) ≡ true → Made log₀ start (record_writer (a (open_at ed pos)) (open_at ed pos) (size ed)) (record_log (a (open_at ed pos)) log (open_at ed pos) (record_of ed e)) (es ++ (e ∷ []))
    at_open yes-there =
        let m = grown log₀ start log es e h pos made.wide made.all refl made.same_log (omega (arith, long ed, room ed pos yes-there)) in
        subst₂ (λ (v : Writer) (l : List ℕ). Made log₀ start v l (es ++ (e ∷ [])))
        (ap (λ (n : ℕ). open_at ed (pos + n)) (sym (long ed)) ∙ sym (ap (λ (t : Bool). cond t (open_at ed (pos + size ed)) (open_at ed pos)) yes-there))
        (sym (ap (λ (t : Bool). cond t (put log pos (record_of ed e)) log) yes-there)) m

-- the start of either edition fits a page
pub start_small : (ed : Edition) → start_size ed + mark_size ed ≤ 4096
start_small One = omega arith
start_small Two = omega arith

-- what a run has made, call by call
pub run_made : (log₀ : List ℕ) (start : Start) {w : Writer} {log : List ℕ} {es : List Entry} → Run log₀ start w log es → Made log₀ start w log es
unfolding begin_answer records_of
run_made log₀ start (begun w wide ok) =
    let fits : leb 4096 (capacity log₀) ≡ true = room_held (leb 4096 (capacity log₀)) tt 13 ok in
    let at : start_size start.edition ≡ start_size start.edition + 0 = omega arith in
    record {
      wide = wide;
      all = none;
      is_open = ap (λ (t : Bool). cond t (open_at start.edition (start_size start.edition)) w) ok ∙ ap (open_at start.edition) at;
      same_log = ap (λ (t : Bool). cond t (put log₀ 0 (start_record start)) log₀) ok ∙ ap (put log₀ 0) (sym (append-nil (start_record start)));
      room = omega (arith, leb-true 4096 (capacity log₀) fits, start_small start.edition);
    }
run_made log₀ start (with_clear w log es b run small ok) =
    record_step log₀ start w log es (clear b) small (clear_answer log) clear_size (λ ed. sym (clear-length ed b)) (λ ed. clear_room ed log) (run_made log₀ start run) ok
run_made log₀ start (with_update w log es id ws ns el b run h ok) =
    record_step log₀ start w log es (update id ws ns el b) h (λ v. update_answer log v ws (length ns)) (λ ed. update_size ed (length ns)) (λ ed. sym (update-length ed id ws ns el b h))
    (λ ed. update_room ed log ws (length ns)) (run_made log₀ start run) ok

-- ---- finish after a run
module _ (log₀ : List ℕ) (start : Start) (w : Writer) (log : List ℕ) (es : List Entry) (run : Run log₀ start w log es) where
  abbrev of_log : Edition
  of_log = start.edition

  abbrev end_at : ℕ
  end_at = end_of start es

  run_length : length log ≡ length log₀
  run_length = ap length (run_made log₀ start run).same_log ∙ put-length log₀ 0 (start_record start ++ records_of of_log es)

  -- "so finish fits the same slice": it is accepted, and answers the length of the log
  pub finish_fits : finish_answer log w ≡ given (finished_length start.edition (end_of start es))
  unfolding finish_answer
  finish_fits =
      let made = run_made log₀ start run in
      let fits : end_at + 0 + mark_size of_log ≤ capacity log = omega (arith, made.room, same_capacity log log₀ run_length) in
      ap (λ (v : Writer). if_open v (if_room log v 0 (given (finished_length (edition_of v) (position v))))) made.is_open
      ∙ ap (λ (t : Bool). cond t (given (finished_length of_log end_at)) (refused 13)) (le-leb (end_at + 0 + mark_size of_log) (capacity log) fits)

  -- the finished log starts the slice: it is the log of the entries written
  pub finished_log : take (finished_length start.edition (end_of start es)) (finish_log log w) ≡ log_of start es
  finished_log =
      let made = run_made log₀ start run in
      let whole : List ℕ = start_record start ++ records_of of_log es in
      let done : length whole ≡ end_at = length-append (start_record start) (records_of of_log es) ∙ ap (λ (n : ℕ). n + length (records_of of_log es)) (start-length start made.wide) in
      let place : end_at ≡ 0 + length whole = omega arith in
      let parts : length (whole ++ end_record of_log end_at) ≡ finished_length of_log end_at = omega (arith, length-append whole (end_record of_log end_at), end-length of_log end_at) in
      let fits : finished_length of_log end_at ≤ length log₀ = omega (arith, made.room, capacity_most log₀) in
      let same : finish_log log w ≡ put log₀ 0 (whole ++ end_record of_log end_at) =
      ap (λ (a : Answer ℕ). cond (accepted a) (put log (position w) (end_record (edition_of w) (position w))) log) finish_fits
      ∙ ap₂ (λ (l : List ℕ) (v : Writer). put l (position v) (end_record (edition_of v) (position v))) made.same_log made.is_open
      ∙ ap (λ (p : ℕ). put (put log₀ 0 whole) p (end_record of_log end_at)) place ∙ put-append log₀ 0 whole (end_record of_log end_at) (omega (arith, parts, length-append whole (end_record of_log end_at))) in
      ap (take (finished_length of_log end_at)) (same ∙ put_fits log₀ 0 (whole ++ end_record of_log end_at) (omega arith))
      ∙ take_at (whole ++ end_record of_log end_at) (drop (0 + length (whole ++ end_record of_log end_at)) log₀) (finished_length of_log end_at) parts
      ∙ append_assoc (start_record start) (records_of of_log es) (end_record of_log end_at)

  -- the round trip
  pub round_trip_start : start_of (take (finished_length start.edition (end_of start es)) (finish_log log w)) ≡ given start.sync
  round_trip_start = ap start_of finished_log ∙ start_back start es (run_made log₀ start run).wide

  pub round_trip : (rule : AfterEnd) → read_log rule (take (finished_length start.edition (end_of start es)) (finish_log log w)) ≡ record { entries = es; at = end_of start es; stop = given tt }
  round_trip rule = ap (read_log rule) finished_log ∙ entries_back start es (run_made log₀ start run).wide rule (run_made log₀ start run).all
