-- What the entries that are no update keep to; this is not in what a call answers. Assumes nothing.
use Rattle.std.specs.Prelude.{◌≡◌, [], ◌∷◌, ℕ, replicate, Result}
use Rattle.answers.specs.declared.Refusal.{Refusal}
use Rattle.page_diff.specs.Pack.{packed_by}
use Rattle.wal_read.specs.declared.What.{What}
use Rattle.wal_read.specs.declared.WalEntry.{WalEntry}

-- an entry that is no update: what it is and where it goes on, with no field of an update
pub record Bare (w : Result What Refusal) (p : ℕ) (e : WalEntry) : Type 0 where
  pub what_is : e.what ≡ w
  pub id_is : e.id ≡ replicate 32 0
  pub diff_is : e.diff.words ≡ 0 ∷ 0 ∷ []
  pub packed_is : e.packed ≡ packed_by (replicate 126 (replicate 32 0)) 0
  pub elided_is : e.elided ≡ replicate 8 0
  pub next_is : e.next ≡ p
