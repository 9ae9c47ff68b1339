-- Laws of the walk over the changes: a sync that goes on comes to what its changes do, one that is refused at a change stops there. Assumes nothing.
use Prim.Native.Nat.{ℕ, ◌+◌, ◌<◌, ◌≤◌}
use mathlib.Core.Path.{◌≡◌, refl, sym, ap, ◌∙◌}
use mathlib.Core.List.{List, [], ◌∷◌}
use native.Mathlib.Nat.{le_antisymm}
use native.Mathlib.Numerals.{add-one}
use lib.ListN.{length, get_or, drop}
use lib.Seq.{drop-cons, drop-length}
use Rattle.std.specs.Prelude.{Err}
use Rattle.sync.specs.Change.{Mem}
use Rattle.sync.specs.Sync.{Came, through, refused_at, CameTo, change_at, change_mem, or_rest, or_mem, all_of, mem_all, Going, on, stopped, going_by, change_going, run_said}
use Rattle.sync.specs.declared.Change.{Change}
use Rattle.sync.specs.declared.SyncRefusal.{SyncRefusal}
use Rattle.sync.specs.declared.SyncRefusal.TheVariants.{Refused, RefusedAt}
use Rattle.sync.specs.declared.SyncState.{SyncState}

-- what is read where no change stands
abbrev pub no_change : Change
no_change = record { id = []; hash = 0; diff = record { words = [] }; place = record { kind = 0; at = 0 } }

-- how the sync goes after the changes, and what they left
abbrev pub goes_on : Mem → List ℕ → List Change → ℕ → SyncState → Going × Mem
goes_on m pages cs j st = (going_by (all_of m pages cs j st).came (all_of m pages cs j st).state, mem_all m pages cs j st)

-- the first change, and then the rest
abbrev then : Came → SyncState → Mem → List ℕ → List Change → ℕ → Going × Mem
then (through i) s x pages cs j = goes_on x pages cs j s
then (refused_at i k) s x pages cs j = (stopped i k, x)

first : (m : Mem) (pages : List ℕ) (c : Change) (cs : List Change) (j : ℕ) (st : SyncState)
    → goes_on m pages (c ∷ cs) j st ≡ then (change_at m pages c j st).came (change_at m pages c j st).state (change_mem m pages c j st) pages cs (j + 1)
unfolding all_of mem_all
first m pages c cs j st = go (change_at m pages c j st) (change_mem m pages c j st)
  where
    go : (a : CameTo) (x : Mem)
        → ◌≡◌ {A = Going × Mem}
        (going_by (or_rest a.came a (all_of x pages cs (j + 1) a.state)).came (or_rest a.came a (all_of x pages cs (j + 1) a.state)).state, or_mem a.came x (mem_all x pages cs (j + 1) a.state))
        (then a.came a.state x pages cs (j + 1))
    go a x = by_came a.came a refl x
      where
        by_came : (k : Came) (a : CameTo) → k ≡ a.came → (x : Mem)
            → ◌≡◌ {A = Going × Mem} (going_by (or_rest k a (all_of x pages cs (j + 1) a.state)).came (or_rest k a (all_of x pages cs (j + 1) a.state)).state, or_mem k x (mem_all x pages cs (j + 1) a.state)) (then k a.state x pages cs (j + 1))
        by_came (through i) a e x = refl
        by_came (refused_at i k) a e x = ap (λ (y : Came). (going_by y a.state, x)) (sym e)

-- the change with the number i, and how the sync goes after it
module _ (m : Mem) (pages : List ℕ) (cs : List Change) (i : ℕ) (st : SyncState) (here : i < length cs) (x : Mem) (f : x ≡ change_mem m pages (get_or cs i no_change) i st) where
  at : goes_on m pages (drop i cs) i st
      ≡ then (change_at m pages (get_or cs i no_change) i st).came (change_at m pages (get_or cs i no_change) i st).state x pages (drop (i + 1) cs) (i + 1)
  at =
      ap (λ (l : List Change). goes_on m pages l i st) (drop-cons cs i no_change here ∙ ap (λ (k : ℕ). get_or cs i no_change ∷ drop k cs) (sym (add-one i)))
      ∙ first m pages (get_or cs i no_change) (drop (i + 1) cs) i st
      ∙ ap (λ (y : Mem). then (change_at m pages (get_or cs i no_change) i st).came (change_at m pages (get_or cs i no_change) i st).state y pages (drop (i + 1) cs) (i + 1)) (sym f)

  -- it goes on
  pub goes_at : (s : SyncState) → on s ≡ change_going m pages (get_or cs i no_change) i (on st) → goes_on m pages (drop i cs) i st ≡ goes_on x pages (drop (i + 1) cs) (i + 1) s
  goes_at s e = at ∙ go (change_at m pages (get_or cs i no_change) i st).came (change_at m pages (get_or cs i no_change) i st).state e
    where
      go : (k : Came) (q : SyncState) → on s ≡ going_by k q → then k q x pages (drop (i + 1) cs) (i + 1) ≡ goes_on x pages (drop (i + 1) cs) (i + 1) s
      go (through j) q e = let z : s ≡ q = cc in ap (goes_on x pages (drop (i + 1) cs) (i + 1)) (sym z)
      go (refused_at j k) q e = absurd cc

  -- it stops
  pub stops_at : (e : SyncRefusal) → run_said (Err e) ≡ change_going m pages (get_or cs i no_change) i (on st) → goes_on m pages (drop i cs) i st ≡ (run_said (Err e), x)
  stops_at e h = at ∙ go e (change_at m pages (get_or cs i no_change) i st).came (change_at m pages (get_or cs i no_change) i st).state h
    where
      go : (e : SyncRefusal) (k : Came) (q : SyncState) → run_said (Err e) ≡ going_by k q → then k q x pages (drop (i + 1) cs) (i + 1) ≡ (run_said (Err e), x)
      go (Refused r) (through y) q h = absurd cc
      go (Refused r) (refused_at y z) q h = absurd cc
      go (RefusedAt j r) (through y) q h = absurd cc
      go (RefusedAt j r) (refused_at y z) q h = ap (λ (g : Going). (g, x)) (sym h)

-- at the end
pub goes_end : (m : Mem) (pages : List ℕ) (cs : List Change) (i : ℕ) (st : SyncState) → i ≤ length cs → length cs ≤ i → goes_on m pages (drop i cs) i st ≡ (on st, m)
unfolding all_of mem_all
goes_end m pages cs i st p q = ap (λ (l : List Change). goes_on m pages l i st) (ap (λ (k : ℕ). drop k cs) (le_antisymm p q) ∙ drop-length cs)
