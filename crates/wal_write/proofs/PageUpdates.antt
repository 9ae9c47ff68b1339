-- The update of a page is the update of what is packed from it; both kinds of update go on a run of accepted calls. Assumes nothing.
use mathlib.Core.Path.{◌≡◌, refl, sym, ap, ap₂, ◌∙◌, subst₂}
use mathlib.Core.Bool.{Bool, true, false, true≢false}
use mathlib.Core.List.{List, [], ◌∷◌, ◌++◌, map}
use Prim.Native.Nat.{ℕ, zero, suc, ◌-◌, ◌*◌, ◌≤◌, ◌<◌}
use native.Mathlib.Nat.{lt_of_not-le}
use native.Mathlib.Decide.{dec_le}
use native.Mathlib.Omega.{arith}
use lib.Dec.{eqb}
use lib.ListN.{length, get_or, take, replicate, length-map}
use lib.Seq.{take_at, get_or-take, length-take-le}
use borrow.Author.Tests.{eq-eqb, eqb-true}
use Rattle.answers.specs.Answers.{Answer, given, accepted}
use Rattle.blocks.specs.Blocks.{block}
use Rattle.blocks.proofs.Laws.{block-length}
use Rattle.page_diff.specs.Diff.{slots, count_of, reserved}
use Rattle.page_diff.specs.Pack.{node_at, table_of}
use Rattle.wal.specs.Log.{Entry, update, record_of, update_size}
use Rattle.wal.specs.Writer.{edition_of, update_answer, record_log, record_writer}
use Rattle.wal.specs.Run.{Wide, Rows, Handed, Run, with_update}
use Rattle.wal.specs.declared.Edition.{Edition}
use Rattle.wal.specs.declared.Start.{Start}
use Rattle.wal.specs.declared.Writer.{Writer}
use Rattle.wal.specs.declared.Writer.TheVariants.{Fresh, Open, Finished}
use Rattle.wal_write.specs.Calls.{update_writer, update_log, page_update_answer, page_update, page_update_writer, page_update_log}
use Rattle.page_diff.proofs.Nodes.{row_there}
use Rattle.wal_write.proofs.CallLaws.{tested, update_tests, page_tests}

-- ---- `write_page_update` of a whole page is `write_update` of the packed table
pub page_answer : (log : List ℕ) (w : Writer) (ws page : List ℕ) → length page ≡ 4096 → page_update_answer log w ws page ≡ update_answer log w ws (count_of ws)
page_answer log w ws page e =
    page_tests log w ws page
    ∙ ap (λ (t : Bool). tested log w t (reserved ws) (λ ed. update_size ed (count_of ws)) (given tt)) (eq-eqb (length page) 4096 e ∙ sym (eq-eqb (count_of ws) (count_of ws) refl))
    ∙ sym (update_tests log w ws (count_of ws))

pub packed_nodes : (page ss : List ℕ) → take (length ss) (table_of page ss) ≡ map (node_at page) ss
unfolding table_of
packed_nodes page ss = take_at (map (node_at page) ss) (replicate (126 - length ss) (replicate 32 0)) (length ss) (length-map ss (node_at page))

pub page_log : (log : List ℕ) (w : Writer) (id ws page : List ℕ) (b : ℕ) → length page ≡ 4096
    → page_update_log log w id ws page b ≡ update_log log w id ws (table_of page (slots ws)) (count_of ws) (block 8 page 4056) b
page_log log w id ws page b e =
    ap₂ (λ (a : Answer (Unit {0})) (ns : List (List ℕ)). record_log a log w (record_of (edition_of w) (update id ws ns (block 8 page 4056) b))) (page_answer log w ws page e) (sym (packed_nodes page (slots ws)))

pub page_writer : (log : List ℕ) (w : Writer) (ws page : List ℕ) → length page ≡ 4096 → page_update_writer log w ws page ≡ update_writer log w ws (count_of ws)
page_writer log w ws page e = ap (λ (a : Answer (Unit {0})). record_writer a w (update_size (edition_of w) (count_of ws))) (page_answer log w ws page e)

-- ---- an accepted call had what it tests for
accepted_tests : (log : List ℕ) (w : Writer) (fit bad : Bool) (size : Edition → ℕ) → accepted {A = Unit {0}} (tested log w fit bad size (given tt)) ≡ true → (fit ≡ true) × (bad ≡ false)
accepted_tests log Fresh fit bad size e = absurd (true≢false (sym e))
accepted_tests log (Open p ed) true true size e = absurd (true≢false (sym e))
accepted_tests log (Open p ed) true false size e = (refl, refl)
accepted_tests log (Open p ed) false bad size e = absurd (true≢false (sym e))
accepted_tests log (Finished n) fit bad size e = absurd (true≢false (sym e))

-- ---- a run goes on by an accepted update, with the count of its nodes known by an equation
run_sized : (log₀ : List ℕ) (start : Start) (w : Writer) (log : List ℕ) (es : List Entry) (id ws : List ℕ) (ns : List (List ℕ)) (elided : List ℕ) (b n : ℕ) (a : Answer (Unit {0}))
    → Run log₀ start w log es → Handed id ws ns elided b → length ns ≡ n → a ≡ update_answer log w ws n → accepted a ≡ true
    → Run log₀ start (record_writer a w (update_size (edition_of w) n)) (record_log a log w (record_of (edition_of w) (update id ws ns elided b))) (es ++ (update id ws ns elided b ∷ []))
run_sized log₀ start w log es id ws ns elided b n a run h long e ok =
    subst₂ (λ (k : ℕ) (x : Answer (Unit {0})). accepted x ≡ true → Run log₀ start (record_writer x w (update_size (edition_of w) k)) (record_log x log w (record_of (edition_of w) (update id ws ns elided b))) (es ++ (update id ws ns elided b ∷ [])))
    long (ap (update_answer log w ws) long ∙ sym e) (with_update w log es id ws ns elided b run h) ok

-- ---- by one lent a table: as many nodes as it takes are there, whatever stands past them
taken-length : (ns : List (List ℕ)) (n : ℕ) → Rows ns n → length (take n ns) ≡ n
taken-length ns n rows = go (dec_le n (length ns))
  where
    go : Dec (n ≤ length ns) → length (take n ns) ≡ n
    go (yes p) = length-take-le n ns p
    go (no p) = absurd (omega (arith, row_there ns (length ns) (rows (length ns) (lt_of_not-le p))))

module _ (id ws : List ℕ) (nodes : List (List ℕ)) (held : ℕ) (elided : List ℕ) (b : ℕ) (wide : Wide id ws elided b) (rows : Rows nodes held) where
  pub table_handed : held ≡ count_of ws → reserved ws ≡ false → Handed id ws (take held nodes) elided b
  table_handed counted plain =
      let long : length (take held nodes) ≡ held = taken-length nodes held rows in
      record {
        wide = wide;
        plain = plain;
        counted = long ∙ counted;
        rows = λ i h. let small : i < held = omega arith in ap length (get_or-take held nodes i [] small) ∙ rows i small;
      }

  pub run_update : (log₀ : List ℕ) (start : Start) (w : Writer) (log : List ℕ) (es : List Entry) → Run log₀ start w log es → accepted (update_answer log w ws held) ≡ true
      → Run log₀ start (update_writer log w ws held) (update_log log w id ws nodes held elided b) (es ++ (update id ws (take held nodes) elided b ∷ []))
  run_update log₀ start w log es run ok =
      let tests = accepted_tests log w (eqb held (count_of ws)) (reserved ws) (λ ed. update_size ed held) (ap accepted (sym (update_tests log w ws held)) ∙ ok) in
      run_sized log₀ start w log es id ws (take held nodes) elided b held (update_answer log w ws held) run (table_handed (eqb-true held (count_of ws) tests.0) tests.1) (taken-length nodes held rows) refl ok

-- ---- by one lent a page: its nodes are nodes
page_rows : (page ss : List ℕ) (i : ℕ) → i < length (map (node_at page) ss) → length (get_or (map (node_at page) ss) i []) ≡ 32
page_rows page [] i h = absurd (omega arith)
page_rows page (s ∷ ss) zero h = block-length 32 page (32 * s)
page_rows page (s ∷ ss) (suc i) h = page_rows page ss i (omega arith)

module _ (id ws page : List ℕ) (b : ℕ) (wide : Wide id ws (block 8 page 4056) b) where
  pub page_handed : reserved ws ≡ false → Handed id ws (map (node_at page) (slots ws)) (block 8 page 4056) b
  page_handed plain = record {
    wide = wide;
    plain = plain;
    counted = length-map (slots ws) (node_at page);
    rows = page_rows page (slots ws);
  }

  pub run_page : (log₀ : List ℕ) (start : Start) (w : Writer) (log : List ℕ) (es : List Entry) → Run log₀ start w log es → accepted (page_update_answer log w ws page) ≡ true
      → Run log₀ start (page_update_writer log w ws page) (page_update_log log w id ws page b) (es ++ (page_update id ws page b ∷ []))
  run_page log₀ start w log es run ok =
      let tests = accepted_tests log w (eqb (length page) 4096) (reserved ws) (λ ed. update_size ed (count_of ws)) (ap accepted (sym (page_tests log w ws page)) ∙ ok) in
      run_sized log₀ start w log es id ws (map (node_at page) (slots ws)) (block 8 page 4056) b (count_of ws) (page_update_answer log w ws page) run (page_handed tests.1)
      (length-map (slots ws) (node_at page)) (page_answer log w ws page (eqb-true (length page) 4096 tests.0)) ok
