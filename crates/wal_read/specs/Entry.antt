-- 01, 'Reader': each field of an entry, by what stands at the position. Assumes nothing.
use Rattle.std.specs.Prelude.{◌≡◌, List, [], ◌∷◌, ◌++◌, ℕ, ◌-◌, length, replicate, Result, Ok, Err}
use Rattle.answers.specs.Refusals.{number_of}
use Rattle.answers.specs.declared.Refusal.{Refusal}
use Rattle.page_diff.specs.Pack.{packed_by}
use Rattle.page_diff.specs.declared.Packed.{Packed}
use Rattle.wal.specs.Log.{clear, update}
use Rattle.wal.specs.Reader.{Next, next, ended, stopped}
use Rattle.wal_read.specs.declared.What.{What}
use Rattle.wal_read.specs.declared.What.TheVariants as what
use Rattle.wal_read.specs.declared.WalEntry.{WalEntry}

-- the kind of what is there, with its bucket or its number
pub data Kind : Type 0 where
  clears : ℕ → Kind
  updates : ℕ → Kind
  ends : Kind
  refuses : ℕ → Kind

abbrev pub what_of : Next → Kind
what_of (next (clear b) p) = clears b
what_of (next (update id ws ns elided b) p) = updates b
what_of ended = ends
what_of (stopped n) = refuses n

abbrev pub what_said : Result What Refusal → Kind
what_said (Ok (what.Clear b)) = clears b
what_said (Ok (what.Update b)) = updates b
what_said (Ok what.End) = ends
what_said (Err r) = refuses (number_of r)

-- of an update its id, words, nodes and elided children; zeros and no node otherwise
abbrev pub id_of : Next → List ℕ
id_of (next (clear b) p) = replicate 32 0
id_of (next (update id ws ns elided b) p) = id
id_of ended = replicate 32 0
id_of (stopped n) = replicate 32 0

abbrev pub diff_of : Next → List ℕ
diff_of (next (clear b) p) = 0 ∷ 0 ∷ []
diff_of (next (update id ws ns elided b) p) = ws
diff_of ended = 0 ∷ 0 ∷ []
diff_of (stopped n) = 0 ∷ 0 ∷ []

abbrev pub nodes_of : Next → List (List ℕ)
nodes_of (next (clear b) p) = []
nodes_of (next (update id ws ns elided b) p) = ns
nodes_of ended = []
nodes_of (stopped n) = []

abbrev pub elided_of : Next → List ℕ
elided_of (next (clear b) p) = replicate 8 0
elided_of (next (update id ws ns elided b) p) = elided
elided_of ended = replicate 8 0
elided_of (stopped n) = replicate 8 0

-- "entries from the count on are zero"
unfoldable pub rows : List (List ℕ) → List (List ℕ)
rows ns = ns ++ replicate (126 - length ns) (replicate 32 0)

abbrev pub packed_of : Next → Packed
packed_of n = packed_by (rows (nodes_of n)) (length (nodes_of n))

-- "gives the next entry and moves on; each entry is taken apart or the reading stops there, position unchanged"
abbrev pub next_of : Next → ℕ → ℕ
next_of (next e p) at = p
next_of ended at = at
next_of (stopped n) at = at

-- e is the entry of what stands at a position
pub record Taken (n : Next) (at : ℕ) (e : WalEntry) : Type 0 where
  pub what_is : what_said e.what ≡ what_of n
  pub id_is : e.id ≡ id_of n
  pub diff_is : e.diff.words ≡ diff_of n
  pub packed_is : e.packed ≡ packed_of n
  pub elided_is : e.elided ≡ elided_of n
  pub next_is : e.next ≡ next_of n at
