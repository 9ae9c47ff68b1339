-- Only the named bytes change: tags at the buckets of accepted changes, marks at the pages of written tags, a cell from unset to the bucket
-- allocated for it. Assumes nothing.
use mathlib.Core.Path.{◌≡◌, refl, sym, ap, ◌∙◌}
use mathlib.Core.Bool.{Bool, true, false, cond, ◌||◌}
use mathlib.Core.List.{List, [], ◌∷◌}
use Prim.Native.Nat.{ℕ, ◌+◌, ◌-◌, ◌/◌, ◌^◌, ◌<◌}
use native.Mathlib.Omega.{arith}
use lib.Dec.{ltb, eqb}
use lib.ListN.{length, get_or, set, length-set}
use lib.Seq.{get_or-set_same, get_or-set_other}
use borrow.Author.Tests.{eq-eqb, eqb-true, ltb-true}
use Rattle.answers.specs.Answers.{Answer, given, refused}
use Rattle.answers.proofs.Laws.{given_refused}
use Rattle.page_diff.specs.Diff.{marked}
use Rattle.meta_map.specs.Tags.{full_tag}
use Rattle.wal.specs.Log.{Entry}
use Rattle.recover.specs.Replay.{bucket_of as entry_bucket}
use Rattle.sync_parts.specs.Parts.{bucket, none, named_by, tag_fits, cells_at}
use Rattle.sync.specs.Change.{where_of, Mem, allocates, does_with, by_named, does_of, Effect, cleared, updated, allocated, bucket_of, effect_of, entry_by, tags_by, marks_by, mem_by, state_by}
use Rattle.sync.specs.Sync.{page_of, came_by, or_mem, change_at, change_mem, all_of, mem_all, entries_by, entries_of}
use Rattle.sync.specs.declared.Change.{Change}
use Rattle.sync.specs.declared.SyncState.{SyncState}
use Rattle.sync_parts.specs.declared.Where.{Where}
use Rattle.sync_parts.specs.declared.Where.TheVariants.{Known, Fresh as FreshPage, Cell}
use Rattle.sync.proofs.Accepted.{after_allocated, accepted_change}
use Rattle.sync.proofs.Plans.{past_spare}

-- no entry is of this bucket
pub data Misses (i : ℕ) : List Entry → Type 0 where
  misses_none : Misses i []
  misses : {e : Entry} {es : List Entry} → (entry_bucket e ≡ i → ⊥) → Misses i es → Misses i (e ∷ es)

-- one tag, of one change
tag_other : (e : Effect) (h : ℕ) (tags : List ℕ) (i : ℕ) → (bucket_of e ≡ i → ⊥) → get_or (tags_by e h tags) i 0 ≡ get_or tags i 0
tag_other (cleared b) h tags i n = get_or-set_other tags b i 0x7F 0 (λ q. n (sym q))
tag_other (updated b) h tags i n = refl
tag_other (allocated b) h tags i n = get_or-set_other tags b i (full_tag h) 0 (λ q. n (sym q))

pub entry_bucket_lem : (c : Change) (page : List ℕ) (e : Effect) → entry_bucket (entry_by c page e) ≡ bucket_of e
entry_bucket_lem c page (cleared b) = refl
entry_bucket_lem c page (updated b) = refl
entry_bucket_lem c page (allocated b) = refl

-- "each tag outside the buckets of accepted changes is as before"
module _ (i : ℕ) (pages : List ℕ) where
  abbrev Keeps : List Change → Type 0
  Keeps cs = (m : Mem) (j : ℕ) (st : SyncState) → Misses i (entries_of m pages cs j st) → get_or (mem_all m pages cs j st).tags i 0 ≡ get_or m.tags i 0

  pub all_tags : (cs : List Change) → Keeps cs
  unfolding all_of mem_all change_at change_mem entries_of
  all_tags [] m j st k = refl
  all_tags (c ∷ cs) m j st k = go (effect_of st m (page_of pages j) c) (all_tags cs) k
    where
      go : (a : Answer Effect) → Keeps cs
          → Misses i (entries_by a c (page_of pages j) (entries_of (mem_by a st m (page_of pages j) c) pages cs (j + 1) (state_by a st c)))
          → get_or (or_mem (came_by a j) (mem_by a st m (page_of pages j) c) (mem_all (mem_by a st m (page_of pages j) c) pages cs (j + 1) (state_by a st c))).tags i 0 ≡ get_or m.tags i 0
      go (refused k) rest h = refl
      go (given e) rest (misses n h) =
          rest (mem_by (given e) st m (page_of pages j) c) (j + 1) (state_by (given e) st c) h
          ∙ tag_other e c.hash m.tags i (λ q. n (entry_bucket_lem c (page_of pages j) e ∙ q))

-- which page's mark a change sets, and whether one of the changes sets it
abbrev writes : Effect → ℕ → Bool
writes (cleared b) p = eqb p (b / 4096)
writes (updated b) p = false
writes (allocated b) p = eqb p (b / 4096)

abbrev wrote_by : Answer Effect → ℕ → Bool → Bool
wrote_by (given e) p rest = writes e p || rest
wrote_by (refused k) p rest = false

unfoldable pub wrote : Mem → List ℕ → List Change → ℕ → SyncState → ℕ → Bool
wrote m pages [] j st p = false
wrote m pages (c ∷ cs) j st p = wrote_by (effect_of st m (page_of pages j) c) p (wrote (change_mem m pages c j st) pages cs (j + 1) (change_at m pages c j st).state p)

-- a byte after one was set
pub set_at : (x p v : ℕ) (s : List ℕ) → p < length s → get_or (set s x v) p 0 ≡ cond (eqb p x) v (get_or s p 0)
set_at x p v s h = go (eqb p x) refl
  where
    go : (b : Bool) → eqb p x ≡ b → get_or (set s x v) p 0 ≡ cond b v (get_or s p 0)
    go true e = ap (λ (y : ℕ). get_or (set s y v) p 0) (sym (eqb-true p x e)) ∙ get_or-set_same s p v 0 h
    go false e = get_or-set_other s x p v 0 (λ q. let y : true ≡ false = sym (eq-eqb p x q) ∙ e in let z : ◌≡◌ {A = ℕ} 0 1 = cc in absurd (omega arith))

mark_one : (e : Effect) (marks : List ℕ) (p : ℕ) → p < length marks → (get_or (marks_by e marks) p 0 ≡ cond (writes e p) 1 (get_or marks p 0)) × (length (marks_by e marks) ≡ length marks)
mark_one (cleared b) marks p h = (set_at (b / 4096) p 1 marks h, length-set marks (b / 4096) 1)
mark_one (updated b) marks p h = (refl, refl)
mark_one (allocated b) marks p h = (set_at (b / 4096) p 1 marks h, length-set marks (b / 4096) 1)

either : (a b : Bool) (x : ℕ) → cond b 1 (cond a 1 x) ≡ cond (a || b) 1 x
either true true x = refl
either true false x = refl
either false b x = refl

-- "A tag written sets its page's mark to 1": exactly those
module _ (p : ℕ) (pages : List ℕ) where
  abbrev Marks : List Change → Type 0
  Marks cs = (m : Mem) (j : ℕ) (st : SyncState) → p < length m.marks → get_or (mem_all m pages cs j st).marks p 0 ≡ cond (wrote m pages cs j st p) 1 (get_or m.marks p 0)

  pub all_marks : (cs : List Change) → Marks cs
  unfolding all_of mem_all change_at change_mem wrote
  all_marks [] m j st h = refl
  all_marks (c ∷ cs) m j st h = go (effect_of st m (page_of pages j) c) (all_marks cs)
    where
      go : (a : Answer Effect) → Marks cs
          → get_or (or_mem (came_by a j) (mem_by a st m (page_of pages j) c) (mem_all (mem_by a st m (page_of pages j) c) pages cs (j + 1) (state_by a st c))).marks p 0
          ≡ cond (wrote_by a p (wrote (mem_by a st m (page_of pages j) c) pages cs (j + 1) (state_by a st c) p)) 1 (get_or m.marks p 0)
      go (refused k) rest = refl
      go (given e) rest =
          let m' : Mem = mem_by (given e) st m (page_of pages j) c in
          let st' : SyncState = state_by (given e) st c in
          let one = mark_one e m.marks p h in
          rest m' (j + 1) st' (omega (arith, one.1))
          ∙ ap (λ (x : ℕ). cond (wrote m' pages cs (j + 1) st' p) 1 x) one.0
          ∙ either (writes e p) (wrote m' pages cs (j + 1) st' p) (get_or m.marks p 0)

-- a change that allocates for a cell found it there and unset
no_allocation : (cl t u : Bool) (x : ℕ) → cond t (cond u (given (does_with cl x)) (refused 14)) (refused 9) ≡ given allocates → ⊥
no_allocation true true true x r = let z : ◌≡◌ {A = ℕ} 0 1 = cc in omega arith
no_allocation false true true x r = let z : ◌≡◌ {A = ℕ} 0 1 = cc in omega arith
no_allocation cl true false x r = given_refused allocates 14 (sym r)
no_allocation cl false u x r = given_refused allocates 9 (sym r)

unset : (cl inside empty : Bool) (n : ℕ) (tags : List ℕ) (h v : ℕ) → by_named cl n tags h (cond inside (given (cond empty none (bucket v))) (refused 2)) ≡ given allocates → (inside ≡ true) × (empty ≡ true)
unset cl true true n tags h v r = (refl, refl)
unset cl true false n tags h v r = absurd (no_allocation cl (ltb v n) (tag_fits h (get_or tags v 0)) v r)
unset cl false empty n tags h v r = absurd (given_refused allocates 2 (sym r))

-- "an unset cell, allocates (the cell then has the bucket)"; every other cell is as before
pub cell_set : (st : SyncState) (m : Mem) (page : List ℕ) (c : Change) (b k : ℕ) → effect_of st m page c ≡ given (allocated b) → where_of c.place ≡ Cell k → (k < length m.cells) × (get_or m.cells k 0 ≡ 2 ^ 64 - 1) × (get_or (mem_by (given (allocated b)) st m page c).cells k 0 ≡ b)
cell_set st m page c b k h w =
    let d = after_allocated st m c (does_of st.n m.tags m.cells c) b (accepted_change st m page c (allocated b) h).2 in
    let p = (past_spare st.n m.tags m.cells c allocates d.0).1 in
    let u = unset (marked c.diff.words 127) (ltb k (length m.cells)) (eqb (get_or m.cells k 0) (2 ^ 64 - 1)) st.n m.tags c.hash (get_or m.cells k 0)
    (sym (ap (λ (x : Where). by_named (marked c.diff.words 127) st.n m.tags c.hash (named_by x m.cells)) w) ∙ p) in
    let l = ltb-true k (length m.cells) u.0 in (
      l,
      eqb-true (get_or m.cells k 0) (2 ^ 64 - 1) u.1,
      ap (λ (x : Where). get_or (cells_at x b m.cells) k 0) w ∙ get_or-set_same m.cells k b 0 l,
    )

pub cell_other : (st : SyncState) (m : Mem) (page : List ℕ) (c : Change) (a : Answer Effect) (i : ℕ) → (where_of c.place ≡ Cell i → ⊥) → get_or (mem_by a st m page c).cells i 0 ≡ get_or m.cells i 0
cell_other st m page c (refused k) i n = refl
cell_other st m page c (given (cleared b)) i n = refl
cell_other st m page c (given (updated b)) i n = refl
cell_other st m page c (given (allocated b)) i n = go (where_of c.place) n
  where
    go : (w : Where) → (w ≡ Cell i → ⊥) → get_or (cells_at w b m.cells) i 0 ≡ get_or m.cells i 0
    go (Known x) n = refl
    go FreshPage n = refl
    go (Cell k) n = get_or-set_other m.cells k i b 0 (λ q. n (ap Cell (sym q)))
