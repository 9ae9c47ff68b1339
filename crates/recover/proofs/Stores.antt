-- 02, W-207: the log of another store is never taken in. Assumes nothing.
use mathlib.Core.Path.{◌≡◌, refl, sym, ap, ◌∙◌}
use mathlib.Core.Bool.{Bool, true, false}
use mathlib.Core.List.{List, ◌++◌}
use Prim.Native.Nat.{ℕ, ◌%◌}
use native.Mathlib.Omega.{arith}
use lib.ListN.{length}
use Rattle.answers.specs.Answers.{given, refused}
use Rattle.blocks.specs.Blocks.{same_bytes}
use Rattle.blocks.proofs.Same.{same_equal}
use Rattle.ht_file.specs.Places.{image_fits}
use Rattle.wal.specs.Log.{start_record}
use Rattle.wal.specs.Reader.{edition_at, start_of, seed_of}
use Rattle.wal.specs.Run.{WideStart}
use Rattle.wal.specs.declared.AfterEnd.{AfterEnd}
use Rattle.wal.specs.declared.Edition.{Edition}
use Rattle.wal.specs.declared.Edition.TheVariants.{Two}
use Rattle.wal.specs.declared.Start.{Start}
use Rattle.wal.proofs.RoundTrip.{edition_told, start_told, seed_told}
use Rattle.wal_read.proofs.NextLaws.{start_long}
use Rattle.recover.specs.declared.Expected.{Expected}
use Rattle.recover.specs.Replay.{store_in, of_store, replay_answer, replay_image}
use Rattle.recover.proofs.Acceptance.{refusal_leaves}
use Rattle.recover.proofs.Replays.{other_store, replay_started}

-- a log of edition two with a start whose seed is another: 26, and the image stays, whatever the log holds after its start, whatever sync number is
-- expected and whatever hashes are lent
module _ (rule : AfterEnd) (n : ℕ) (image log : List ℕ) (want : Expected) (hashes : List ℕ) (fits : image_fits n (length image) ≡ true) (two : edition_at log ≡ Two) (s : ℕ) (start : start_of log ≡ given s)
    (differs : seed_of log ≡ want.seed → ⊥) where
  not_ours : of_store log want.seed ≡ false
  not_ours = ap (λ (ed : Edition). store_in ed log want.seed) two ∙ go (same_bytes (seed_of log) want.seed) refl
    where
      go : (b : Bool) → same_bytes (seed_of log) want.seed ≡ b → same_bytes (seed_of log) want.seed ≡ false
      go true e = absurd (differs (same_equal (seed_of log) want.seed e))
      go false e = e

  answer_26 : replay_answer rule n image log want hashes ≡ refused 26
  answer_26 =
      sym (other_store rule n log s want (length hashes) not_ours
      ∙ replay_started rule n (length image) log want (length hashes) fits (λ z. omega (arith, start_long (edition_at log) log s start)) (given s) start)

  pub other_store_refused : (replay_answer rule n image log want hashes ≡ refused 26) × (replay_image rule n image log want hashes ≡ image)
  other_store_refused = (answer_26, refusal_leaves rule n image log want hashes 26 answer_26)

-- the same from the bytes: a start of edition two, and any bytes after it that fill the pages
pub rehearsal_refused : (rule : AfterEnd) (n : ℕ) (image : List ℕ) (start : Start) (rest : List ℕ) (want : Expected) (hashes : List ℕ) → image_fits n (length image) ≡ true → WideStart start → start.edition ≡ Two
    → length (start_record start ++ rest) % 4096 ≡ 0 → (start.seed ≡ want.seed → ⊥)
    → (replay_answer rule n image (start_record start ++ rest) want hashes ≡ refused 26) × (replay_image rule n image (start_record start ++ rest) want hashes ≡ image)
rehearsal_refused rule n image start rest want hashes fits wide two pages differs =
    other_store_refused rule n image (start_record start ++ rest) want hashes fits (edition_told start rest ∙ two) start.sync (start_told start rest wide pages) (λ e. differs (sym (seed_told start rest wide two) ∙ e))
