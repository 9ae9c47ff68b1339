-- 02, W-203: what the rule for clears gives, and by how much it narrows document 01's. A clear that is accepted was of a bucket with the tag of the
-- change's hash, and no lookup finds a page in that bucket afterwards. Every change but the clears whose bucket is full with another tag is as it
-- was; those are refused with 14. Assumes nothing.
use mathlib.Core.Path.{◌≡◌, refl, sym, ap, ap₂, ◌∙◌}
use mathlib.Core.Logic.{◌⊎◌, inl, inr, ⊎_elim}
use mathlib.Core.Bool.{Bool, true, false, cond, ◌&&◌, true≢false}
use mathlib.Core.List.{List}
use Prim.Native.Nat.{ℕ, ◌<◌}
use native.Mathlib.Omega.{arith}
use lib.Dec.{ltb, eqb}
use lib.ListN.{length, get_or}
use lib.Seq.{get_or-set_same}
use borrow.Author.Tests.{ltb-true, eqb-true, eqb-false, eq-eqb, lt-ltb, ne_eqb}
use Rattle.std.specs.Prelude.{Result, Ok}
use Rattle.answers.specs.Answers.{Answer, given, refused}
use Rattle.answers.specs.declared.Refusal.{Refusal}
use Rattle.answers.proofs.Laws.{given_one, given_refused}
use Rattle.ht_file.specs.Places.{tag_pages, tags_fit, if_tags}
use Rattle.ht_file.proofs.Laws.{tags_fit_facts}
use Rattle.meta_map.specs.Tags.{full, is_kind, kind_of, full_tag}
use Rattle.meta_map.proofs.Laws.{full_tag_kind}
use Rattle.page_diff.specs.Diff.{marked}
use Rattle.probe.specs.Path.{found_at, lookup_answer}
use Rattle.probe.proofs.Promises.{found_right}
use Rattle.wal.specs.Writer.{if_open}
use Rattle.wal.specs.declared.Edition.{Edition}
use Rattle.wal.specs.declared.Writer.{Writer}
use Rattle.wal.specs.declared.Writer.TheVariants.{Fresh, Open, Finished}
use Rattle.sync_parts.specs.Parts.{Named, bucket, none, named_by, tag_fits}
use Rattle.sync.specs.Change.{where_of, Mem, Does, updates, allocates, does_with, by_named, does_of, Effect, cleared, updated, allocated, after_does, effect_of, mem_by, state_by, page_number, taken_said, StepPromise}
use Rattle.sync.specs.declared.Change.{Change}
use Rattle.sync.specs.declared.SyncState.{SyncState}
use Rattle.sync.specs.declared.Taken.{Taken}
use Rattle.sync.proofs.Accepted.{after_cleared, after_updated, after_allocated, accepted_change}
use Rattle.sync.proofs.Plans.{Told, as_update, as_new, does_told, does_clears}
use Rattle.sync.proofs.TagKinds.{cleared_own}

-- ---- what it gives: of one call of `step`, by its promise
module _ (st : SyncState) (m : Mem) (page : List ℕ) (c : Change) (r : Result Taken Refusal) (st' : SyncState) (after : Mem) (p : StepPromise st m page c r st' after) where
  -- a clearing change that is taken has cleared the bucket that it answers
  pub taken_clears : marked c.diff.words 127 ≡ true → (b q : ℕ) → r ≡ Ok record { bucket = b; page = q } → effect_of st m page c ≡ given (cleared b)
  taken_clears clearing b q e = go (effect_of st m page c) refl (sym p.taken ∙ ap taken_said e)
    where
      plan : (d : Does) → does_of st.n m.tags m.cells c ≡ given d → Told st.n m.tags c.hash (marked c.diff.words 127) d
      plan d = does_told st.n m.tags m.cells c d

      no_update : (x : ℕ) → Told st.n m.tags c.hash (marked c.diff.words 127) (updates x) → ⊥
      no_update x (as_update l s t) = true≢false (sym clearing ∙ s)

      no_new : Told st.n m.tags c.hash (marked c.diff.words 127) allocates → ⊥
      no_new (as_new s) = true≢false (sym clearing ∙ s)

      go : (a : Answer Effect) → effect_of st m page c ≡ a → page_number st a ≡ given (b, q) → effect_of st m page c ≡ given (cleared b)
      go (refused k) h f = absurd (given_refused (b, q) k (sym f))
      go (given (cleared x)) h f = h ∙ ap (λ (y : ℕ). given (cleared y)) (ap (λ (y : ℕ × ℕ). y.0) (given_one _ (b, q) f))
      go (given (updated x)) h f =
          absurd (no_update x (plan (updates x) (after_updated st m c (does_of st.n m.tags m.cells c) x (accepted_change st m page c (updated x) h).2).0))
      go (given (allocated x)) h f =
          absurd (no_new (plan allocates (after_allocated st m c (does_of st.n m.tags m.cells c) x (accepted_change st m page c (allocated x) h).2).0))

  -- of a clearing change, by what the call answers: it took bucket b
  module _ (clearing : marked c.diff.words 127 ≡ true) (b q : ℕ) (answered : r ≡ Ok record { bucket = b; page = q }) where
    done : effect_of st m page c ≡ given (cleared b)
    done = taken_clears clearing b q answered

    -- "the tag must be the full tag of the page's own hash": the bucket had it, and is a tombstone now
    pub clear_hits_its_own : (get_or m.tags b 0 ≡ full_tag c.hash) × (get_or after.tags b 0 ≡ 0x7F)
    clear_hits_its_own =
        let a = accepted_change st m page c (cleared b) done in
        let inside : b < st.n = does_clears st.n m.tags m.cells c b (after_cleared st m c (does_of st.n m.tags m.cells c) b a.2).0 in
        let long = tags_fit_facts st.n (length m.tags) a.0 in (
          cleared_own st m page c b done,
          ap (λ (x : Mem). get_or x.tags b 0) (p.memory ∙ ap (λ (e : Answer Effect). mem_by e st m page c) done) ∙ get_or-set_same m.tags b 0x7F 0 (omega (arith, long, inside)),
        )

    -- an image with these tags: a lookup answers another bucket or none, whichever page is sought
    pub cleared_not_found : (img : List ℕ) → get_or img b 0 ≡ get_or after.tags b 0 → (h : ℕ) (id : List ℕ) → lookup_answer img st.n h id ≡ given (found_at b) → ⊥
    cleared_not_found img same h id found =
        let tag : get_or img b 0 ≡ full_tag h = (found_right img st.n h id b found).1.page.0 in
        omega (arith, tag, same, clear_hits_its_own.1)

-- who looks the id up first is not refused for its tag
pub found_fits : (img tags : List ℕ) (n h : ℕ) (id : List ℕ) (b : ℕ) → lookup_answer img n h id ≡ given (found_at b) → get_or tags b 0 ≡ get_or img b 0 → tag_fits h (get_or tags b 0) ≡ true
found_fits img tags n h id b found same = eq-eqb (get_or tags b 0) (full_tag h) (same ∙ (found_right img n h id b found).1.page.0)

-- ---- by how much it narrows: document 01's rule, "Cleared diff: [..] its tag full", and what a change did by it
abbrev former_fits : Bool → ℕ → ℕ → Bool
former_fits true h t = is_kind full (kind_of t)
former_fits false h t = eqb t (full_tag h)

abbrev former_named : Bool → ℕ → List ℕ → ℕ → Answer Named → Answer Does
former_named clearing n tags h (refused k) = refused k
former_named clearing n tags h (given (bucket b)) = cond (ltb b n) (cond (former_fits clearing h (get_or tags b 0)) (given (does_with clearing b)) (refused 14)) (refused 9)
former_named clearing n tags h (given none) = cond clearing (refused 14) (given allocates)

abbrev former_does : ℕ → List ℕ → List ℕ → Change → Answer Does
former_does n tags cells c = cond (marked c.diff.words 126) (refused 4) (former_named (marked c.diff.words 127) n tags c.hash (named_by (where_of c.place) cells))

abbrev by_does : SyncState → Mem → List ℕ → Change → Answer Does → Answer Effect
by_does st m page c d =
    if_tags m.tags st.n (cond (eqb (length page) 4096 && eqb (length m.marks) (tag_pages st.n)) (if_open st.writer (after_does st m c d)) (refused 2))

abbrev pub former_effect : SyncState → Mem → List ℕ → Change → Answer Effect
former_effect st m page c = by_does st m page c (former_does st.n m.tags m.cells c)

-- "the clears whose tag is another page's"
pub record OtherTag (n : ℕ) (tags cells : List ℕ) (c : Change) : Type 0 where
  pub at : ℕ
  pub clearing : marked c.diff.words 127 ≡ true
  pub names : named_by (where_of c.place) cells ≡ given (bucket at)
  pub inside : at < n
  pub was_full : is_kind full (kind_of (get_or tags at 0)) ≡ true
  pub other : get_or tags at 0 ≡ full_tag c.hash → ⊥

module _ (n : ℕ) (tags cells : List ℕ) (c : Change) where
  abbrev h : ℕ
  h = c.hash

  -- a tag that fits now fitted before
  fitted : (cl : Bool) (t : ℕ) → tag_fits h t ≡ true → former_fits cl h t ≡ true
  fitted true t e = ap (λ (x : ℕ). is_kind full (kind_of x)) (eqb-true t (full_tag h) e) ∙ ap (is_kind full) (full_tag_kind h)
  fitted false t e = e

  named_narrowed : (cl : Bool) → marked c.diff.words 127 ≡ cl → (a : Answer Named) → named_by (where_of c.place) cells ≡ a
      → (by_named cl n tags h a ≡ former_named cl n tags h a) ⊎ (OtherTag n tags cells c × (by_named cl n tags h a ≡ refused 14))
  named_narrowed cl k (refused x) q = inl refl
  named_narrowed cl k (given none) q = inl refl
  named_narrowed cl k (given (bucket b)) q = go (ltb b n) refl (tag_fits h (get_or tags b 0)) refl cl k (former_fits cl h (get_or tags b 0)) refl
    where
      go : (t : Bool) → ltb b n ≡ t → (u : Bool) → tag_fits h (get_or tags b 0) ≡ u → (v : Bool) → marked c.diff.words 127 ≡ v → (w : Bool) → former_fits v h (get_or tags b 0) ≡ w
          → let now : Answer Does = cond (ltb b n) (cond (tag_fits h (get_or tags b 0)) (given (does_with v b)) (refused 14)) (refused 9) in
          let then : Answer Does = cond (ltb b n) (cond (former_fits v h (get_or tags b 0)) (given (does_with v b)) (refused 14)) (refused 9) in (now ≡ then) ⊎ (OtherTag n tags cells c × (now ≡ refused 14))
      go false e u f v g w i = inl (ap (λ (t : Bool). cond t (cond (tag_fits h (get_or tags b 0)) (given (does_with v b)) (refused 14)) (refused 9)) e ∙ sym (ap (λ (t : Bool). cond t (cond (former_fits v h (get_or tags b 0)) (given (does_with v b)) (refused 14)) (refused 9)) e))
      go true e true f v g w i = inl (ap (λ (x : Bool). cond (ltb b n) (cond x (given (does_with v b)) (refused 14)) (refused 9)) (f ∙ sym (fitted v (get_or tags b 0) f)))
      go true e false f v g false i = inl (ap (λ (x : Bool). cond (ltb b n) (cond x (given (does_with v b)) (refused 14)) (refused 9)) (f ∙ sym i))
      go true e false f false g true i = absurd (true≢false (sym i ∙ f))
      go true e false f true g true i =
          inr (record { at = b; clearing = g; names = q; inside = ltb-true b n e; was_full = i; other = eqb-false (get_or tags b 0) (full_tag h) f }, ap₂ (λ (t u : Bool). cond t (cond u (given (does_with true b)) (refused 14)) (refused 9)) e f)

  does_narrowed : (does_of n tags cells c ≡ former_does n tags cells c) ⊎ (OtherTag n tags cells c × (does_of n tags cells c ≡ refused 14))
  unfolding does_of
  does_narrowed = go (marked c.diff.words 126) refl
    where
      a : Answer Named
      a = named_by (where_of c.place) cells

      cl : Bool
      cl = marked c.diff.words 127

      go : (s : Bool) → marked c.diff.words 126 ≡ s
          → (cond (marked c.diff.words 126) (refused 4) (by_named cl n tags h a) ≡ cond (marked c.diff.words 126) (refused 4) (former_named cl n tags h a))
          ⊎ (OtherTag n tags cells c × (cond (marked c.diff.words 126) (refused 4) (by_named cl n tags h a) ≡ refused 14))
      go true e = inl (ap (λ (s : Bool). cond s (refused 4) (by_named cl n tags h a)) e ∙ sym (ap (λ (s : Bool). cond s (refused 4) (former_named cl n tags h a)) e))
      go false e =
          ⊎_elim (λ same. inl (ap (cond (marked c.diff.words 126) (refused 4)) same))
          (λ o. inr (o.0, ap (λ (s : Bool). cond s (refused 4) (by_named cl n tags h a)) e ∙ o.1)) (named_narrowed cl refl a refl)

  -- and such a clear is refused so, unless its diff is refused before
  pub other_does : marked c.diff.words 126 ≡ false → OtherTag n tags cells c → does_of n tags cells c ≡ refused 14
  unfolding does_of
  other_does e o =
      ap (λ (s : Bool). cond s (refused 4) (by_named (marked c.diff.words 127) n tags h (named_by (where_of c.place) cells))) e
      ∙ ap (by_named (marked c.diff.words 127) n tags h) o.names
      ∙ ap₂ (λ (t u : Bool). cond t (cond u (given (does_with (marked c.diff.words 127) o.at)) (refused 14)) (refused 9)) (lt-ltb o.at n o.inside) (ne_eqb (get_or tags o.at 0) (full_tag h) o.other)

-- ---- of one call: every change answers as before, or it is such a clear and the answer is 14
pub effect_narrowed : (st : SyncState) (m : Mem) (page : List ℕ) (c : Change)
    → (effect_of st m page c ≡ former_effect st m page c) ⊎ (OtherTag st.n m.tags m.cells c × (effect_of st m page c ≡ refused 14))
unfolding effect_of
effect_narrowed st m page c =
    ⊎_elim (λ same. inl (ap (by_does st m page c) same)) (λ o. go o.0 o.1 (tags_fit st.n (length m.tags)) (eqb (length page) 4096 && eqb (length m.marks) (tag_pages st.n)) st.writer)
    (does_narrowed st.n m.tags m.cells c)
  where
    d : Answer Does
    d = does_of st.n m.tags m.cells c

    f : Answer Does
    f = former_does st.n m.tags m.cells c

    go : OtherTag st.n m.tags m.cells c → d ≡ refused 14 → (t u : Bool) (w : Writer)
        → let by : Answer Does → Answer Effect = λ x. cond t (cond u (if_open w (after_does st m c x)) (refused 2)) (refused 1) in (by d ≡ by f) ⊎ (OtherTag st.n m.tags m.cells c × (by d ≡ refused 14))
    go o e false u w = inl refl
    go o e true false w = inl refl
    go o e true true Fresh = inl refl
    go o e true true (Finished k) = inl refl
    go o e true true (Open k ed) = inr (o, ap (after_does st m c) e)

-- "on every change that both rules let through all answers and bytes are as before"
pub as_before : (st : SyncState) (m : Mem) (page : List ℕ) (c : Change) (e : Effect) → effect_of st m page c ≡ given e
    → (former_effect st m page c ≡ given e) × (state_by (effect_of st m page c) st c ≡ state_by (former_effect st m page c) st c) × (mem_by (effect_of st m page c) st m page c ≡ mem_by (former_effect st m page c) st m page c)
as_before st m page c e ok =
    let same : effect_of st m page c ≡ former_effect st m page c = ⊎_elim (λ s. s) (λ o. absurd (given_refused e 14 (sym ok ∙ o.1))) (effect_narrowed st m page c) in
    (sym same ∙ ok, ap (λ (a : Answer Effect). state_by a st c) same, ap (λ (a : Answer Effect). mem_by a st m page c) same)

-- such a clear, of the call `step`: where nothing else is wrong it answers 14, and all that is lent stays
pub other_refused : (st : SyncState) (m : Mem) (page : List ℕ) (c : Change) (r : Result Taken Refusal) (st' : SyncState) (after : Mem) → StepPromise st m page c r st' after
    → OtherTag st.n m.tags m.cells c → marked c.diff.words 126 ≡ false → tags_fit st.n (length m.tags) ≡ true
    → (eqb (length page) 4096 && eqb (length m.marks) (tag_pages st.n)) ≡ true → (k : ℕ) (ed : Edition) → st.writer ≡ Open k ed
    → (taken_said r ≡ refused 14) × (after ≡ m)
unfolding effect_of
other_refused st m page c r st' after p o spare fits lent k ed is_open =
    let d : Answer Does = does_of st.n m.tags m.cells c in
    let answer : effect_of st m page c ≡ refused 14 =
    ap₂ (λ (t u : Bool). cond t (cond u (if_open st.writer (after_does st m c d)) (refused 2)) (refused 1)) fits lent
    ∙ ap (λ (w : Writer). if_open w (after_does st m c d)) is_open ∙ ap (after_does st m c) (other_does st.n m.tags m.cells c spare o) in
    (p.taken ∙ ap (page_number st) answer, p.memory ∙ ap (λ (a : Answer Effect). mem_by a st m page c) answer)
