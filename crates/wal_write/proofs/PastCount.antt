-- "entries from the count on are .. ignored where a caller lends others": an update is made of the first `held` nodes, so two tables that
-- agree in those are logged alike, with one answer. Assumes nothing.
use mathlib.Core.Path.{◌≡◌, refl, sym, ap, ◌∙◌}
use mathlib.Core.List.{List}
use Prim.Native.Nat.{ℕ}
use lib.ListN.{take}
use Rattle.std.specs.Prelude.{Result}
use Rattle.answers.specs.declared.Refusal.{Refusal}
use Rattle.answers.proofs.Laws.{answer_one}
use Rattle.page_diff.proofs.PastCount.{table_then}
use Rattle.wal.specs.Log.{update, record_of}
use Rattle.wal.specs.Writer.{edition_of, update_answer, record_log}
use Rattle.wal.specs.declared.Writer.{Writer}
use Rattle.wal_write.specs.Calls.{update_log, Updates}

module _ (log : List ℕ) (w : Writer) (id ws : List ℕ) (ns ms : List (List ℕ)) (held : ℕ) (elided : List ℕ) (b : ℕ) (same : take held ns ≡ take held ms) where
  pub update_ignores : update_log log w id ws ns held elided b ≡ update_log log w id ws ms held elided b
  update_ignores = ap (λ (l : List (List ℕ)). record_log (update_answer log w ws held) log w (record_of (edition_of w) (update id ws l elided b))) same

  -- of the calls: one answer, one state, one log
  pub updates_alike : (r s : Result (Unit {0}) Refusal) (u v : Writer) (out end : List ℕ) → Updates log w id ws ns held elided b r u out → Updates log w id ws ms held elided b s v end → (r ≡ s) × ((u ≡ v) × (out ≡ end))
  updates_alike r s u v out end p q = (answer_one r s (p.0 ∙ sym q.0), (p.1.0 ∙ sym q.1.0, p.1.1 ∙ update_ignores ∙ sym q.1.1))

-- such tables: a node, and then zeros or other bytes
pub zeros_or_ones : (log : List ℕ) (w : Writer) (id ws elided : List ℕ) (b : ℕ) → update_log log w id ws (table_then 0) 1 elided b ≡ update_log log w id ws (table_then 1) 1 elided b
zeros_or_ones log w id ws elided b = update_ignores log w id ws (table_then 0) (table_then 1) 1 elided b refl
