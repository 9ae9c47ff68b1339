-- The run over a log that was checked: each entry's step is taken, so that k steps make replay of the first k entries,
-- and the second reading does not refuse. Assumes nothing.
use mathlib.Core.Path.{◌≡◌, refl, sym, ap, ap₂, ◌∙◌, subst}
use mathlib.Core.Bool.{Bool, true, false, cond}
use mathlib.Core.List.{List, [], ◌∷◌, ◌++◌, append-nil}
use Prim.Native.Nat.{ℕ, suc, ◌+◌, ◌≤◌, ◌<◌, zero-le}
use native.Mathlib.Numerals.{add-one}
use native.Mathlib.Omega.{arith}
use lib.Dec.{ltb}
use lib.ListN.{length, get_or, take, drop, take-append-drop}
use lib.Seq.{take-add, drop-drop, get_or-drop}
use borrow.Author.Tests.{ltb-true}
use Rattle.answers.specs.Answers.{Answer, given, refused, accepted}
use Rattle.ht_file.specs.Places.{image_fits}
use Rattle.ht_file.proofs.Laws.{both_hold}
use Rattle.wal.specs.Log.{Entry, clear, update, start_size}
use Rattle.wal.specs.Reader.{edition_at, Next, next, ended, stopped, next_by, Reading, read_from, read_log}
use Rattle.wal.specs.declared.AfterEnd.{AfterEnd}
use Rattle.wal.proofs.Endings.{same_entries}
use Rattle.wal_read.proofs.ReadLaws.{moves, read_entry_lem, read_end, read_stop}
use Rattle.recover.specs.Places.{Step, with_hashes, entry_gives, replayed, stepped}
use Rattle.recover.specs.Replay.{bucket_of, all_inside, one_update, updates_in, after_entries, check_answer, steps_of, Went, cleared, updated, at_end, went_to, step_answer, step_image, hashes_fit, check_of}
use Rattle.recover.specs.Calls.{Stand, moved_by, called}
use Rattle.recover.proofs.Demand3.{replayed_none, replayed-snoc, replayed-length}
use Rattle.recover.proofs.Steps.{step_taken, by_next_lem, image_by_lem}

-- at the head of the loop: the first k entries are applied to the table, and what is read from here on are the others
pub record RunState (rule : AfterEnd) (n : ℕ) (log hashes table image : List ℕ) (at used k : ℕ) : Type 0 where
  pub made : image ≡ replayed n (take k (steps_of log hashes)) table
  pub left : drop k (steps_of log hashes) ≡ with_hashes (read_from rule (edition_at log) log at).entries (drop used hashes)
  pub inside : all_inside n (read_from rule (edition_at log) log at).entries ≡ true
  pub whole : (read_from rule (edition_at log) log at).stop ≡ given tt
  pub few : used ≤ at

-- so for some k
abbrev pub Running : AfterEnd → ℕ → List ℕ → List ℕ → List ℕ → List ℕ → ℕ → ℕ → Type 0
Running rule n log hashes table image at used = (k : ℕ) × RunState rule n log hashes table image at used k

-- a log that was accepted has its buckets inside and comes to its end
pub checked : (rule : AfterEnd) (n : ℕ) (log : List ℕ) (hashes : ℕ) → check_answer rule n log hashes ≡ given tt → (all_inside n (read_log rule log).entries ≡ true) × ((read_log rule log).stop ≡ given tt)
unfolding check_answer
checked rule n log hashes ok = go (all_inside n (read_log rule log).entries) refl (read_log rule log).stop refl ok
  where
    go : (b : Bool) → all_inside n (read_log rule log).entries ≡ b → (a : Answer (Unit {0})) → (read_log rule log).stop ≡ a
        → check_of n hashes (read_log rule log) ≡ given tt
        → (all_inside n (read_log rule log).entries ≡ true) × ((read_log rule log).stop ≡ given tt)
    go true p (given tt) q e = (p, q)
    go true p (refused k) q e =
        let z : refused k ≡ given tt = sym (ap₂ (λ (b : Bool) (a : Answer (Unit {0})). cond b (after_entries a (hashes_fit hashes (updates_in (read_log rule log).entries))) (refused 9)) p q) ∙ e in
        let y : ◌≡◌ {A = ℕ} 0 1 = cc in absurd (omega arith)
    go false p a q e =
        let z : refused 9 ≡ given tt = sym (ap (λ (b : Bool). cond b (after_entries (read_log rule log).stop (hashes_fit hashes (updates_in (read_log rule log).entries))) (refused 9)) p) ∙ e in
        let y : ◌≡◌ {A = ℕ} 0 1 = cc in absurd (omega arith)

pub run_start : (rule : AfterEnd) (n : ℕ) (log hashes table : List ℕ) → check_answer rule n log (length hashes) ≡ given tt → RunState rule n log hashes table table (start_size (edition_at log)) 0 0
run_start rule n log hashes table ok =
    let c = checked rule n log (length hashes) ok in
    record { made = replayed_none n table; left = ap (λ (es : List Entry). with_hashes es hashes) (sym (same_entries rule log)); inside = c.0; whole = c.1; few = zero-le }

-- one place further along a list
take_on : (k : ℕ) (ss : List Step) → take (suc k) ss ≡ take k ss ++ take 1 (drop k ss)
take_on k ss = ap (λ (m : ℕ). take m ss) (sym (add-one k)) ∙ take-add k 1 ss

drop_on : (k : ℕ) (ss : List Step) → drop (suc k) ss ≡ drop 1 (drop k ss)
drop_on k ss = ap (λ (m : ℕ). drop m ss) (sym (add-one k)) ∙ sym (drop-drop 1 k ss)

-- one entry more is applied, and one less is left
one_more : (k : ℕ) (ss : List Step) (s : Step) (rest : List Step) → drop k ss ≡ s ∷ rest → (take (suc k) ss ≡ take k ss ++ (s ∷ [])) × (drop (suc k) ss ≡ rest)
one_more k ss s rest e = (take_on k ss ∙ ap (λ (l : List Step). take k ss ++ take 1 l) e, drop_on k ss ∙ ap (drop 1) e)

-- none is left: all are applied, and one more changes nothing
none_left : (k : ℕ) (ss : List Step) → drop k ss ≡ [] → (take k ss ≡ ss) × (take (suc k) ss ≡ take k ss) × (drop (suc k) ss ≡ [])
none_left k ss e = (
  sym (append-nil (take k ss)) ∙ sym (ap (λ (l : List Step). take k ss ++ l) e) ∙ take-append-drop k ss,
  take_on k ss ∙ ap (λ (l : List Step). take k ss ++ take 1 l) e ∙ append-nil (take k ss),
  drop_on k ss ∙ ap (drop 1) e,
)

-- the hash of a clear does not matter
any_hash : (n b h k : ℕ) (image : List ℕ) → stepped n (record { entry = clear b; hash = h }) image ≡ stepped n (record { entry = clear b; hash = k }) image
unfolding entry_gives
any_hash n b h k image = refl

module _ (rule : AfterEnd) (n : ℕ) (log hashes table image : List ℕ) (at used : ℕ) {k : ℕ} (st : RunState rule n log hashes table image at used k) where
  pub run_long : length image ≡ length table
  run_long = ap length st.made ∙ replayed-length n (take k (steps_of log hashes)) table

module _ (rule : AfterEnd) (n : ℕ) (log hashes table image : List ℕ) (at used : ℕ) {k : ℕ} (st : RunState rule n log hashes table image at used k) (fits : image_fits n (length image) ≡ true) where
  -- an entry is left: it is inside the table
  entry_inside : (e : Entry) (p : ℕ) → next_by rule (edition_at log) log at ≡ next e p → (bucket_of e < n) × (all_inside n (read_from rule (edition_at log) log p).entries ≡ true)
  unfolding all_inside
  entry_inside e p h =
      let both = both_hold (ltb (bucket_of e) n) (all_inside n (read_from rule (edition_at log) log p).entries) (sym (ap (λ (r : Reading). all_inside n r.entries) (read_entry_lem rule (edition_at log) log at e p h)) ∙ st.inside) in
      (ltb-true (bucket_of e) n both.0, both.1)

  no_stop : (k : ℕ) → next_by rule (edition_at log) log at ≡ stopped k → ⊥
  no_stop k h =
      let z : refused k ≡ given tt = sym (ap (λ (r : Reading). r.stop) (read_stop rule (edition_at log) log at k h)) ∙ st.whole in
      let y : ◌≡◌ {A = ℕ} 0 1 = cc in omega arith

  abbrev steps : List Step
  steps = steps_of log hashes

  -- the entry that stands there is the next of them, its step taken with the hash that is lent for it; those after it are left
  next_step : (e : Entry) (p used' : ℕ) → next_by rule (edition_at log) log at ≡ next e p → used' ≡ used + one_update e
      → (stepped n (record { entry = e; hash = get_or hashes used 0 }) image ≡ replayed n (take (suc k) steps) table) × (drop (suc k) steps ≡ with_hashes (read_from rule (edition_at log) log p).entries (drop used' hashes))
  unfolding with_hashes
  next_step (clear b) p used' h q =
      let z : used ≡ used' = omega arith in
      let s : Step = record { entry = clear b; hash = 0 } in
      let m = one_more k steps s (with_hashes (read_from rule (edition_at log) log p).entries (drop used hashes)) (st.left ∙ ap (λ (r : Reading). with_hashes r.entries (drop used hashes)) (read_entry_lem rule (edition_at log) log at (clear b) p h)) in (
        any_hash n b (get_or hashes used 0) 0 image ∙ ap (stepped n s) st.made ∙ sym (replayed-snoc n (take k steps) s table) ∙ ap (λ (l : List Step). replayed n l table) (sym m.0),
        m.1 ∙ ap (λ (u : ℕ). with_hashes (read_from rule (edition_at log) log p).entries (drop u hashes)) z,
      )
  next_step (update id ws ns el b) p used' h q =
      let e : Entry = update id ws ns el b in
      let z : used + 0 ≡ used = omega arith in
      let first : get_or (drop used hashes) 0 0 ≡ get_or hashes used 0 = get_or-drop used hashes 0 0 ∙ ap (λ (i : ℕ). get_or hashes i 0) z in
      let others : drop 1 (drop used hashes) ≡ drop used' hashes = drop-drop 1 used hashes ∙ ap (λ (i : ℕ). drop i hashes) (sym q) in
      let s : Step = record { entry = e; hash = get_or hashes used 0 } in
      let m = one_more k steps s (with_hashes (read_from rule (edition_at log) log p).entries (drop used' hashes))
      (st.left ∙ ap (λ (r : Reading). with_hashes r.entries (drop used hashes)) (read_entry_lem rule (edition_at log) log at e p h)
      ∙ ap₂ (λ (v : ℕ) (hs : List ℕ). record { entry = e; hash = v } ∷ with_hashes (read_from rule (edition_at log) log p).entries hs) first others) in (
        ap (stepped n s) st.made ∙ sym (replayed-snoc n (take k steps) s table) ∙ ap (λ (l : List Step). replayed n l table) (sym m.0),
        m.1,
      )

  run_on : (e : Entry) (p used' : ℕ) → next_by rule (edition_at log) log at ≡ next e p → used' ≡ used + one_update e → one_update e ≤ 1 → RunState rule n log hashes table (step_image rule n image (edition_at log) log at (get_or hashes used 0)) p used' (suc k)
  run_on e p used' h q one-most =
      let i = entry_inside e p h in
      let t = step_taken rule n image (edition_at log) log at (get_or hashes used 0) fits e p h i.0 in
      let m = moves rule (edition_at log) log at e p h in
      let s = next_step e p used' h q in
      record {
        made = sym t.1 ∙ s.0;
        left = s.1;
        inside = i.1;
        whole = sym (ap (λ (r : Reading). r.stop) (read_entry_lem rule (edition_at log) log at e p h)) ∙ st.whole;
        few = omega (arith, st.few, m.on);
      }

  -- at the end nothing is left
  ended_left : next_by rule (edition_at log) log at ≡ ended → (take k steps ≡ steps) × (take (suc k) steps ≡ take k steps) × (drop (suc k) steps ≡ [])
  unfolding with_hashes
  ended_left h = none_left k steps (st.left ∙ ap (λ (r : Reading). with_hashes r.entries (drop used hashes)) (read_end rule (edition_at log) log at h))

  -- the step answered that a clear was applied
  pub after_clear : (p : ℕ) → given (cleared p) ≡ step_answer rule n image (edition_at log) log at → (at + 9 ≤ p) × (p ≤ length log) × RunState rule n log hashes table (step_image rule n image (edition_at log) log at (get_or hashes used 0)) p used (suc k)
  after_clear p a = go (next_by rule (edition_at log) log at) refl
    where
      go : (x : Next) → next_by rule (edition_at log) log at ≡ x → (at + 9 ≤ p) × (p ≤ length log) × RunState rule n log hashes table (step_image rule n image (edition_at log) log at (get_or hashes used 0)) p used (suc k)
      go (next (clear b) q) h =
          let s = step_taken rule n image (edition_at log) log at (get_or hashes used 0) fits (clear b) q h (entry_inside (clear b) q h).0 in
          let z : given (cleared p) ≡ given (cleared q) = a ∙ sym s.0 in
          let e : p ≡ q = cc in
          let m = moves rule (edition_at log) log at (clear b) q h in (
            omega (arith, m.on),
            omega (arith, m.within),
            run_on (clear b) p used (h ∙ ap (next (clear b)) (sym e)) (omega arith) (omega arith),
          )
      go (next (update id ws ns el b) q) h =
          let s = step_taken rule n image (edition_at log) log at (get_or hashes used 0) fits (update id ws ns el b) q h (entry_inside (update id ws ns el b) q h).0 in
          let z : given (cleared p) ≡ given (updated q) = a ∙ sym s.0 in
          let y : ◌≡◌ {A = ℕ} 0 1 = cc in absurd (omega arith)
      go ended h =
          let z : given (cleared p) ≡ given at_end = a ∙ by_next_lem rule n image (edition_at log) log at (get_or hashes used 0) fits ended h in
          let y : ◌≡◌ {A = ℕ} 0 1 = cc in absurd (omega arith)
      go (stopped k) h = absurd (no_stop k h)

  -- the step answered that an update was applied
  pub after_update : (p : ℕ) → given (updated p) ≡ step_answer rule n image (edition_at log) log at → (at + 9 ≤ p) × (p ≤ length log) × RunState rule n log hashes table (step_image rule n image (edition_at log) log at (get_or hashes used 0)) p (used + 1) (suc k)
  after_update p a = go (next_by rule (edition_at log) log at) refl
    where
      go : (x : Next) → next_by rule (edition_at log) log at ≡ x → (at + 9 ≤ p) × (p ≤ length log) × RunState rule n log hashes table (step_image rule n image (edition_at log) log at (get_or hashes used 0)) p (used + 1) (suc k)
      go (next (update id ws ns el b) q) h =
          let s = step_taken rule n image (edition_at log) log at (get_or hashes used 0) fits (update id ws ns el b) q h (entry_inside (update id ws ns el b) q h).0 in
          let z : given (updated p) ≡ given (updated q) = a ∙ sym s.0 in
          let e : p ≡ q = cc in
          let m = moves rule (edition_at log) log at (update id ws ns el b) q h in (
            omega (arith, m.on),
            omega (arith, m.within),
            run_on (update id ws ns el b) p (used + 1) (h ∙ ap (next (update id ws ns el b)) (sym e)) refl (omega arith),
          )
      go (next (clear b) q) h =
          let s = step_taken rule n image (edition_at log) log at (get_or hashes used 0) fits (clear b) q h (entry_inside (clear b) q h).0 in
          let z : given (updated p) ≡ given (cleared q) = a ∙ sym s.0 in
          let y : ◌≡◌ {A = ℕ} 0 1 = cc in absurd (omega arith)
      go ended h =
          let z : given (updated p) ≡ given at_end = a ∙ by_next_lem rule n image (edition_at log) log at (get_or hashes used 0) fits ended h in
          let y : ◌≡◌ {A = ℕ} 0 1 = cc in absurd (omega arith)
      go (stopped k) h = absurd (no_stop k h)

  -- the step stands at the end, and all is applied
  pub at_the_end : given at_end ≡ step_answer rule n image (edition_at log) log at → step_image rule n image (edition_at log) log at (get_or hashes used 0) ≡ replayed n (steps_of log hashes) table
  at_the_end a = go (next_by rule (edition_at log) log at) refl
    where
      not_went : (e : Entry) (p : ℕ) → given (went_to e p) ≡ given at_end → ⊥
      not_went (clear b) p z = let y : ◌≡◌ {A = ℕ} 0 1 = cc in omega arith
      not_went (update id ws ns el b) p z = let y : ◌≡◌ {A = ℕ} 0 1 = cc in omega arith

      go : (x : Next) → next_by rule (edition_at log) log at ≡ x → step_image rule n image (edition_at log) log at (get_or hashes used 0) ≡ replayed n (steps_of log hashes) table
      go (next e p) h =
          let s = step_taken rule n image (edition_at log) log at (get_or hashes used 0) fits e p h (entry_inside e p h).0 in
          absurd (not_went e p (s.0 ∙ sym a))
      go ended h =
          image_by_lem rule n image (edition_at log) log at (get_or hashes used 0) fits ended h ∙ st.made ∙ ap (λ (l : List Step). replayed n l table) (ended_left h).0
      go (stopped k) h = absurd (no_stop k h)

  -- one call more, whatever it answers; it is not refused
  pub run_call : let w = called rule n log hashes (record { image = image; at = at; used = used }) in RunState rule n log hashes table w.image w.at w.used (suc k)
  unfolding with_hashes
  run_call = go (next_by rule (edition_at log) log at) refl
    where
      hash : ℕ
      hash = get_or hashes used 0

      here : Stand
      here = record { image = image; at = at; used = used }

      Stands : Stand → Type 0
      Stands w = RunState rule n log hashes table w.image w.at w.used (suc k)

      go : (x : Next) → next_by rule (edition_at log) log at ≡ x → Stands (called rule n log hashes here)
      go (next (clear b) p) h =
          subst (λ (a : Answer Went). Stands (moved_by a (step_image rule n image (edition_at log) log at hash) here)) (step_taken rule n image (edition_at log) log at hash fits (clear b) p h (entry_inside (clear b) p h).0).0
          (run_on (clear b) p used h (omega arith) (omega arith))
      go (next (update id ws ns el b) p) h =
          let e : Entry = update id ws ns el b in
          subst (λ (a : Answer Went). Stands (moved_by a (step_image rule n image (edition_at log) log at hash) here)) (step_taken rule n image (edition_at log) log at hash fits e p h (entry_inside e p h).0).0
          (run_on e p (used + 1) h refl (omega arith))
      go ended h =
          let left = ended_left h in
          let r = read_end rule (edition_at log) log at h in
          subst (λ (a : Answer Went). Stands (moved_by a (step_image rule n image (edition_at log) log at hash) here)) (sym (by_next_lem rule n image (edition_at log) log at hash fits ended h))
          (record {
            made = image_by_lem rule n image (edition_at log) log at hash fits ended h ∙ st.made ∙ ap (λ (l : List Step). replayed n l table) (sym left.1);
            left = left.2 ∙ sym (ap (λ (x : Reading). with_hashes x.entries (drop used hashes)) r);
            inside = st.inside;
            whole = st.whole;
            few = st.few;
          })
      go (stopped q) h = absurd (no_stop q h)

  pub call_accepted : accepted (step_answer rule n image (edition_at log) log at) ≡ true
  call_accepted = go (next_by rule (edition_at log) log at) refl
    where
      go : (x : Next) → next_by rule (edition_at log) log at ≡ x → accepted (step_answer rule n image (edition_at log) log at) ≡ true
      go (next e p) h = ap accepted (sym (step_taken rule n image (edition_at log) log at (get_or hashes used 0) fits e p h (entry_inside e p h).0).0)
      go ended h = ap accepted (by_next_lem rule n image (edition_at log) log at (get_or hashes used 0) fits ended h)
      go (stopped q) h = absurd (no_stop q h)

  -- no step is refused
  pub not_refused : (k : ℕ) → refused k ≡ step_answer rule n image (edition_at log) log at → ⊥
  not_refused k e = let z : false ≡ true = ap accepted e ∙ call_accepted in let y : ◌≡◌ {A = ℕ} 0 1 = cc in omega arith
