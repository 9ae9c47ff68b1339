-- A run of accepted calls goes on by each call, and finish closes it: by what the call promises, and nothing else. What is written is well
-- formed, for the promise hands out the widths and acceptance tells the rest. Assumes nothing.
use mathlib.Core.Path.{◌≡◌, sym, ap, ◌∙◌, subst₂}
use mathlib.Core.Bool.{true}
use mathlib.Core.List.{List, [], ◌∷◌, ◌++◌}
use Prim.Native.Nat.{ℕ}
use lib.ListN.{take}
use Rattle.std.specs.Prelude.{Result}
use Rattle.answers.specs.Answers.{given, accepted, answer_of}
use Rattle.answers.specs.declared.Refusal.{Refusal}
use Rattle.wal.specs.Log.{Entry, clear, update, finished_length}
use Rattle.wal.specs.Reader.{edition_at, start_of, seed_of, read_log}
use Rattle.wal.specs.Run.{Run, begun, with_clear, end_of, log_of}
use Rattle.wal.specs.declared.AfterEnd.{AfterEnd}
use Rattle.wal.specs.declared.Edition.TheVariants.{Two}
use Rattle.wal.specs.declared.Start.{Start}
use Rattle.wal.specs.declared.Writer.{Writer}
use Rattle.wal.proofs.RoundTrip.{edition_back, start_back, seed_back, run_made, finish_fits, finished_log, round_trip}
use Rattle.wal_write.specs.Calls.{Begins, Clears, Updates, UpdatesPage, Finishes, page_update}
use Rattle.wal_write.proofs.PageUpdates.{run_update, run_page}

-- a call that answered r was accepted
abbrev Taken : Result (Unit {0}) Refusal → Type 0
Taken r = accepted (answer_of r) ≡ true

pub after_begin : (log : List ℕ) (w : Writer) (start : Start) (r : Result (Unit {0}) Refusal) (v : Writer) (out : List ℕ) → Begins log w start r v out → Taken r → Run log start v out []
after_begin log w start r v out p ok =
    subst₂ (λ (x : Writer) (l : List ℕ). Run log start x l []) (sym p.1.0) (sym p.1.1) (begun w p.2 (ap accepted (sym p.0) ∙ ok))

module _ (log₀ : List ℕ) (start : Start) (w : Writer) (log : List ℕ) (es : List Entry) (run : Run log₀ start w log es) where
  module _ (r : Result (Unit {0}) Refusal) (v : Writer) (out : List ℕ) where
    pub after_clear : (b : ℕ) → Clears log w b r v out → Taken r → Run log₀ start v out (es ++ (clear b ∷ []))
    after_clear b p ok =
        subst₂ (λ (x : Writer) (l : List ℕ). Run log₀ start x l (es ++ (clear b ∷ []))) (sym p.1.0) (sym p.1.1) (with_clear w log es b run p.2 (ap accepted (sym p.0) ∙ ok))

    pub after_update : (id ws : List ℕ) (nodes : List (List ℕ)) (held : ℕ) (elided : List ℕ) (b : ℕ) → Updates log w id ws nodes held elided b r v out → Taken r
        → Run log₀ start v out (es ++ (update id ws (take held nodes) elided b ∷ []))
    after_update id ws nodes held elided b p ok =
        let yes-taken = ap accepted (sym p.0) ∙ ok in
        subst₂ (λ (x : Writer) (l : List ℕ). Run log₀ start x l (es ++ (update id ws (take held nodes) elided b ∷ []))) (sym p.1.0) (sym p.1.1)
        (run_update id ws nodes held elided b p.2 (p.3 yes-taken) log₀ start w log es run yes-taken)

    pub after_page_update : (id ws page : List ℕ) (b : ℕ) → UpdatesPage log w id ws page b r v out → Taken r → Run log₀ start v out (es ++ (page_update id ws page b ∷ []))
    after_page_update id ws page b p ok =
        subst₂ (λ (x : Writer) (l : List ℕ). Run log₀ start x l (es ++ (page_update id ws page b ∷ []))) (sym p.1.0) (sym p.1.1)
        (run_page id ws page b p.2 log₀ start w log es run (ap accepted (sym p.0) ∙ ok))

  -- finish is then given, and its log starts the slice and reads back, by its own edition, as the sync number and exactly the entries written
  module _ (r : Result ℕ Refusal) (v : Writer) (out : List ℕ) (p : Finishes log w r v out) where
    abbrev pub len : ℕ
    len = finished_length start.edition (end_of start es)

    pub after_finish : answer_of r ≡ given len
    after_finish = p.0 ∙ finish_fits log₀ start w log es run

    pub whole_log : take len out ≡ log_of start es
    whole_log = ap (take len) p.1.1 ∙ finished_log log₀ start w log es run

    pub reads_edition : edition_at (take len out) ≡ start.edition
    reads_edition = ap edition_at whole_log ∙ edition_back start es

    pub reads_start : start_of (take len out) ≡ given start.sync
    reads_start = ap start_of whole_log ∙ start_back start es (run_made log₀ start run).wide

    pub reads_seed : start.edition ≡ Two → seed_of (take len out) ≡ start.seed
    reads_seed two = ap seed_of whole_log ∙ seed_back start es (run_made log₀ start run).wide two

    -- by a reader that wants zeros after end, and by a tolerant one
    pub reads_back : (rule : AfterEnd) → read_log rule (take len out) ≡ record { entries = es; at = end_of start es; stop = given tt }
    reads_back rule = ap (λ (l : List ℕ). read_log rule (take len l)) p.1.1 ∙ round_trip log₀ start w log es run rule
