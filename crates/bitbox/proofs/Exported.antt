-- What is proved of the whole sync holds of the exported one: where it answers no refusal, its words are those of an answer that `sync` promises.
-- Assumes nothing.
use mathlib.Core.Path.{◌≡◌, refl, sym, ap, ap₂, ◌∙◌, subst}
use mathlib.Core.Bool.{true}
use mathlib.Core.List.{List}
use Prim.Native.Nat.{ℕ}
use native.Mathlib.Omega.{arith}
use lib.ListN.{length, take}
use Rattle.std.specs.Prelude.{Result, Ok}
use Rattle.ht_file.specs.Places.{image_fits}
use Rattle.answers.specs.Answers.{given}
use Rattle.recover.specs.Replay.{applied, replay_answer, Own}
use Rattle.recover.specs.declared.Expected.{Expected}
use Rattle.wal.specs.Run.{end_of}
use Rattle.wal.specs.declared.AfterEnd.{AfterEnd}
use Rattle.wal.specs.declared.Start.{Start}
use Rattle.wal.specs.declared.Writer.{Writer}
use Rattle.wal.specs.Reader.{read_log}
use Rattle.sync.specs.Change.{Mem}
use Rattle.sync.specs.Sync.{entries_of, hashes_of, start_mem, start_state, SyncSaid, said_done, said_refused, said_refused_at, sync_says, sync_writer, widths_by, SyncPromise}
use Rattle.sync.specs.declared.Change.{Change}
use Rattle.sync.specs.declared.SyncRefusal.{SyncRefusal}
use Rattle.sync.specs.declared.Synced.{Synced}
use Rattle.sync.proofs.Refused.{OfStart, table_unfit, lengths_unfit, no_page_of_log, OfChange, reserved_bit, cell_index, bucket_outside, bucket_unfit, no_room, path_crowded, path_closed, start_number, refused_before, refused_at_lem}
use Rattle.sync.proofs.Promises.{sync_reads_back, sync_replays}
use Rattle.bitbox.specs.Words.{log_start_of, writer_of, writer_words, sync_start, sync_words, SyncExport}
use Rattle.bitbox.specs.declared.LogStart.{LogStart}
use Rattle.bitbox.specs.declared.SyncAnswer.{SyncAnswer}
use Rattle.bitbox.specs.declared.WriterState.{WriterState}

-- 0 is the number of no refusal
no_start : (k : ℕ) → OfStart k → k ≡ 0 → ⊥
no_start k table_unfit e = omega arith
no_start k lengths_unfit e = omega arith
no_start k no_page_of_log e = omega arith

no_change : (k : ℕ) → OfChange k → k ≡ 0 → ⊥
no_change k reserved_bit e = omega arith
no_change k cell_index e = omega arith
no_change k bucket_outside e = omega arith
no_change k bucket_unfit e = omega arith
no_change k no_room e = omega arith
no_change k path_crowded e = omega arith
no_change k path_closed e = omega arith

module _ (n : ℕ) (m : Mem) (pages : List ℕ) (cs : List Change) (from : LogStart) (w : WriterState) (r : SyncAnswer) (after : Mem) (x : SyncExport n m pages cs from w r after) (ok : r.refusal ≡ 0) where
  abbrev start : Start
  start = log_start_of from

  -- the answer of `sync` that these words say
  abbrev pub answered : Result Synced SyncRefusal
  answered = Ok (record { occupied = r.occupied; length = r.length })

  -- and the writer after it
  abbrev pub writer_left : Writer
  writer_left = sync_writer n m pages cs start (writer_of w)

  done_said : sync_says n m pages cs start ≡ said_done r.occupied r.length
  done_said = go (sync_says n m pages cs start) refl
    where
      go : (s : SyncSaid) → sync_says n m pages cs start ≡ s → sync_says n m pages cs start ≡ said_done r.occupied r.length
      go (said_done o l) e =
          let z : r ≡ sync_words (said_done o l) (writer_words (sync_writer n m pages cs start (writer_of w))) = x.answer ∙ ap (λ (s : SyncSaid). sync_words s (writer_words (sync_writer n m pages cs start (writer_of w)))) e in
          e ∙ ap₂ said_done (sym (ap (λ (a : SyncAnswer). a.occupied) z)) (sym (ap (λ (a : SyncAnswer). a.length) z))
      go (said_refused k) e =
          let z : r.refusal ≡ k = ap (λ (a : SyncAnswer). a.refusal) x.answer ∙ ap (λ (s : SyncSaid). (sync_words s (writer_words (sync_writer n m pages cs start (writer_of w)))).refusal) e in
          absurd (no_start k (start_number n m pages (length cs) k (refused_before n m pages cs start k e).0) (sym z ∙ ok))
      go (said_refused_at j k) e =
          let z : r.refusal ≡ k = ap (λ (a : SyncAnswer). a.refusal) x.answer ∙ ap (λ (s : SyncSaid). (sync_words s (writer_words (sync_writer n m pages cs start (writer_of w)))).refusal) e in
          absurd (no_change k (refused_at_lem n m pages cs start j k e).number (sym z ∙ ok))

  pub exported_sync : SyncPromise (sync_start n from) m pages cs (writer_of w) answered writer_left after
  exported_sync =
      record {
        says = sym done_said;
        writer = refl;
        memory = x.memory;
        widths = subst (λ (s : SyncSaid). widths_by s cs start) done_said x.widths;
      }

  -- so its log reads back by every reader, and every replay accepts it with the hashes of the changes that do not clear
  pub exported_reads_back : (rule : AfterEnd) → read_log rule (take r.length after.log)
      ≡ record {
        entries = entries_of (start_mem m (log_start_of from)) pages cs 0 (start_state n m (log_start_of from));
        at = end_of (log_start_of from) (entries_of (start_mem m (log_start_of from)) pages cs 0 (start_state n m (log_start_of from)));
        stop = given tt;
      }
  exported_reads_back = sync_reads_back (sync_start n from) m pages cs (writer_of w) answered writer_left after exported_sync r.occupied r.length refl

  pub exported_replays : (rule : AfterEnd) (want : Expected) → Own (log_start_of from) want → (table : List ℕ) → image_fits n (length table) ≡ true → replay_answer rule n table (take r.length after.log) want (hashes_of cs) ≡ given applied
  exported_replays = sync_replays (sync_start n from) m pages cs (writer_of w) answered writer_left after exported_sync r.occupied r.length refl
