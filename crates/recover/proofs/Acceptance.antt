-- Demand 3's last sentence: a log that our writer finished, its buckets inside the table, is accepted under its own sync number (and, in edition
-- two, its own store's seed) with one hash per update; and the places where replay leaves the image. Assumes nothing.
use mathlib.Core.Path.{◌≡◌, refl, sym, ap, ap₂, ◌∙◌}
use mathlib.Core.Bool.{Bool, true, cond}
use mathlib.Core.List.{List}
use Prim.Native.Nat.{ℕ}
use native.Mathlib.Omega.{arith}
use lib.Dec.{eqb}
use lib.ListN.{length, take}
use borrow.Author.Tests.{eq-eqb, ne_eqb}
use Rattle.answers.specs.Answers.{Answer, given, refused}
use Rattle.blocks.proofs.Same.{equal_same}
use Rattle.ht_file.specs.Places.{image_fits}
use Rattle.wal.specs.Log.{Entry, finished_length}
use Rattle.wal.specs.Reader.{start_of, seed_of, Reading}
use Rattle.wal.specs.Writer.{finish_log}
use Rattle.wal.specs.Run.{WideStart, Run, end_of, log_of}
use Rattle.wal.specs.declared.AfterEnd.{AfterEnd}
use Rattle.wal.specs.declared.AfterEnd.TheVariants.{Tolerant}
use Rattle.wal.specs.declared.Edition.{Edition}
use Rattle.wal.specs.declared.Edition.TheVariants.{One, Two}
use Rattle.wal.specs.declared.Start.{Start}
use Rattle.wal.specs.declared.Writer.{Writer}
use Rattle.wal.proofs.Records.{mark_some}
use Rattle.wal.proofs.RoundTrip.{AllWellFormed, log-length, edition_back, start_back, seed_back, entries_back, run_made, finished_log}
use Rattle.recover.specs.declared.Expected.{Expected}
use Rattle.recover.specs.Places.{with_hashes, replayed}
use Rattle.recover.specs.Replay.{Did, nothing, stale, applied, all_inside, updates_in, check_answer, store_in, of_store, after_start, Own, replay_answer, replay_image, image_by, steps_of, hashes_fit, check_of, replay_tests}

module _ (rule : AfterEnd) (n : ℕ) (start : Start) (es : List Entry) (wide : WideStart start) (all : AllWellFormed es) (inside : all_inside n es ≡ true) where
  -- the check of its whole log
  pub check_accepts : (hashes : ℕ) → hashes ≡ updates_in es → check_answer rule n (log_of start es) hashes ≡ given tt
  unfolding check_answer
  check_accepts hashes e =
      ap (check_of n hashes) (entries_back start es wide rule all)
      ∙ ap (λ (t : Bool). cond t (hashes_fit hashes (updates_in es)) (refused 9)) inside
      ∙ ap (λ (t : Bool). cond t (given tt) (refused 2)) (eq-eqb hashes (updates_in es) e)

  not_empty : length (log_of start es) ≡ 0 → ⊥
  not_empty z = omega (arith, log-length start es wide, mark_some start.edition)

  module _ (want : Expected) (own : Own start want) where
    -- it is of the store
    of_store_lem : of_store (log_of start es) want.seed ≡ true
    of_store_lem = ap (λ (ed : Edition). store_in ed (log_of start es) want.seed) (edition_back start es) ∙ go start.edition refl
      where
        go : (ed : Edition) → start.edition ≡ ed → store_in ed (log_of start es) want.seed ≡ true
        go One e = refl
        go Two e = equal_same (seed_of (log_of start es)) want.seed (seed_back start es wide e ∙ sym (own.same_store e))

    -- 5. acceptance, for the log of any such entries
    pub replay_accepts : (table hashes : List ℕ) → image_fits n (length table) ≡ true → length hashes ≡ updates_in es → replay_answer rule n table (log_of start es) want hashes ≡ given applied
    unfolding replay_tests
    replay_accepts table hashes fits e =
        let log : List ℕ = log_of start es in
        ap (λ (t : Bool). cond t (cond (eqb (length log) 0) (given nothing) (after_start (start_of log) log want (check_answer rule n log (length hashes)))) (refused 1)) fits
        ∙ ap (λ (t : Bool). cond t (given nothing) (after_start (start_of log) log want (check_answer rule n log (length hashes)))) (ne_eqb (length log) 0 not_empty)
        ∙ ap₂ (λ (s : Answer ℕ) (c : Answer (Unit {0})). after_start s log want c) (start_back start es wide) (check_accepts (length hashes) e)
        ∙ ap (λ (t : Bool). cond t (cond (eqb start.sync want.sync) (given applied) (given stale)) (refused 26)) of_store_lem
        ∙ ap (λ (t : Bool). cond t (given applied) (given stale)) (eq-eqb start.sync want.sync (sym own.same_sync))

    -- the image is then replay's, of exactly the entries written
    pub replay_applies : (table hashes : List ℕ) → image_fits n (length table) ≡ true → length hashes ≡ updates_in es → replay_image rule n table (log_of start es) want hashes ≡ replayed n (with_hashes es hashes) table
    replay_applies table hashes fits e =
        ap (λ (a : Answer Did). image_by a table (replayed n (steps_of (log_of start es) hashes) table)) (replay_accepts table hashes fits e)
        ∙ ap (λ (r : Reading). replayed n (with_hashes r.entries hashes) table) (entries_back start es wide Tolerant all)

-- 5. acceptance, for a log that accepted calls wrote and finish closed
pub finished_accepted : (rule : AfterEnd) (log₀ : List ℕ) (start : Start) (w : Writer) (log : List ℕ) (es : List Entry) → Run log₀ start w log es → (want : Expected) → Own start want → (n : ℕ) (table hashes : List ℕ)
    → all_inside n es ≡ true → image_fits n (length table) ≡ true → length hashes ≡ updates_in es → replay_answer rule n table (take (finished_length start.edition (end_of start es)) (finish_log log w)) want hashes ≡ given applied
finished_accepted rule log₀ start w log es run want own n table hashes inside fits e =
    ap (λ (l : List ℕ). replay_answer rule n table l want hashes) (finished_log log₀ start w log es run)
    ∙ replay_accepts rule n start es (run_made log₀ start run).wide (run_made log₀ start run).all inside want own table hashes fits e

-- the answer looks at the image's length alone, so it is the same for a table and for what stops leave of it
pub answer_by-length : (rule : AfterEnd) (n : ℕ) (a b log : List ℕ) (want : Expected) (hashes : List ℕ) → length a ≡ length b → replay_answer rule n a log want hashes ≡ replay_answer rule n b log want hashes
unfolding replay_tests
answer_by-length rule n a b log want hashes e =
    ap (λ (l : ℕ). cond (image_fits n l) (cond (eqb (length log) 0) (given nothing) (after_start (start_of log) log want (check_answer rule n log (length hashes)))) (refused 1)) e

-- 6. everything but `applied` leaves the image
pub nothing_leaves : (rule : AfterEnd) (n : ℕ) (image log : List ℕ) (want : Expected) (hashes : List ℕ) → replay_answer rule n image log want hashes ≡ given nothing → replay_image rule n image log want hashes ≡ image
nothing_leaves rule n image log want hashes e = ap (λ (a : Answer Did). image_by a image (replayed n (steps_of log hashes) image)) e

pub stale_leaves : (rule : AfterEnd) (n : ℕ) (image log : List ℕ) (want : Expected) (hashes : List ℕ) → replay_answer rule n image log want hashes ≡ given stale → replay_image rule n image log want hashes ≡ image
stale_leaves rule n image log want hashes e = ap (λ (a : Answer Did). image_by a image (replayed n (steps_of log hashes) image)) e

pub refusal_leaves : (rule : AfterEnd) (n : ℕ) (image log : List ℕ) (want : Expected) (hashes : List ℕ) (k : ℕ) → replay_answer rule n image log want hashes ≡ refused k → replay_image rule n image log want hashes ≡ image
refusal_leaves rule n image log want hashes k e = ap (λ (a : Answer Did). image_by a image (replayed n (steps_of log hashes) image)) e
