-- Demand 3: replay from the start, from the table or from whatever stops left of it, ends in one and the same image: each named place has
-- the last value that the log gives it, each other byte is the table's. Assumes nothing.
use mathlib.Core.Path.{◌≡◌, refl, sym, ap, ap₂, ◌∙◌, subst}
use mathlib.Core.Logic.{⊎_elim}
use mathlib.Core.Bool.{Bool, true, false, cond, ◌||◌, true≢false, or-false}
use mathlib.Core.List.{List, [], ◌∷◌, ◌++◌}
use Prim.Native.Nat.{ℕ, zero, suc, ◌<◌}
use lib.Dec.{eqb}
use lib.ListN.{length, get_or, take}
use Rattle.blocks.proofs.Laws.{tabulate-length, tabulate-get_or, tabulate_is}
use Rattle.wal.specs.Log.{clear}
use Rattle.recover.specs.Places.{Step, entry_names, names, gives, named_in, value_at, replayed, stepped}
use Rattle.recover.specs.Replay.{OnlyNamed, LastGiven, Mix, Stopped, untouched, part_applied, mixed}

-- ---- the value at one place
module _ (n : ℕ) (j : ℕ) where
  -- a named place has the value that the log gives it, whatever stood there
  pub value_named : (ss : List Step) (a b : ℕ) → named_in n ss j ≡ true → value_at n ss a j ≡ value_at n ss b j
  unfolding named_in value_at
  value_named [] a b e = absurd (true≢false (sym e))
  value_named (s ∷ ss) a b e = go (named_in n ss j) refl (names n s j) refl (λ h. value_named ss a b h)
    where
      go : (t : Bool) → named_in n ss j ≡ t → (u : Bool) → names n s j ≡ u → (named_in n ss j ≡ true → value_at n ss a j ≡ value_at n ss b j)
          → cond (named_in n ss j) (value_at n ss a j) (cond (names n s j) (gives n s j) a) ≡ cond (named_in n ss j) (value_at n ss b j) (cond (names n s j) (gives n s j) b)
      go true p u q r = ap (λ (v : ℕ). cond (named_in n ss j) v (cond (names n s j) (gives n s j) a)) (r p) ∙ ap (λ (t : Bool). cond t (value_at n ss b j) (cond (names n s j) (gives n s j) a)) p ∙ sym (ap (λ (t : Bool). cond t (value_at n ss b j) (cond (names n s j) (gives n s j) b)) p)
      go false p true q r =
          ap₂ (λ (t u : Bool). cond t (value_at n ss a j) (cond u (gives n s j) a)) p q ∙ sym (ap₂ (λ (t u : Bool). cond t (value_at n ss b j) (cond u (gives n s j) b)) p q)
      go false p false q r = absurd (true≢false (sym e ∙ ap₂ (λ (t u : Bool). t || u) q p))

  -- every other place keeps what stood there
  pub value_other : (ss : List Step) (was : ℕ) → named_in n ss j ≡ false → value_at n ss was j ≡ was
  unfolding named_in value_at
  value_other [] was e = refl
  value_other (s ∷ ss) was e = go (names n s j) refl (named_in n ss j) refl
    where
      go : (u : Bool) → names n s j ≡ u → (t : Bool) → named_in n ss j ≡ t → cond (named_in n ss j) (value_at n ss was j) (cond (names n s j) (gives n s j) was) ≡ was
      go true q t p = absurd (true≢false (sym (ap (λ (u : Bool). u || named_in n ss j) q) ∙ e))
      go false q true p = absurd (true≢false (sym (ap₂ (λ (u t : Bool). u || t) q p) ∙ e))
      go false q false p = ap₂ (λ (u t : Bool). cond t (value_at n ss was j) (cond u (gives n s j) was)) q p

  -- and it is the last such value
  pub value_last : (ss : List Step) (was : ℕ) → named_in n ss j ≡ true → LastGiven n ss j (value_at n ss was j)
  unfolding named_in value_at
  value_last [] was e = absurd (true≢false (sym e))
  value_last (s ∷ ss) was e = go (named_in n ss j) refl (λ h. value_last ss was h)
    where
      go : (t : Bool) → named_in n ss j ≡ t → (named_in n ss j ≡ true → LastGiven n ss j (value_at n ss was j))
          → LastGiven n (s ∷ ss) j (cond (named_in n ss j) (value_at n ss was j) (cond (names n s j) (gives n s j) was))
      go true p r =
          let l = r p in
          record {
            before = s ∷ l.before;
            giver = l.giver;
            after = l.after;
            split = ap (λ (x : List Step). s ∷ x) l.split;
            named = l.named;
            last = l.last;
            value = ap (λ (t : Bool). cond t (value_at n ss was j) (cond (names n s j) (gives n s j) was)) p ∙ l.value;
          }
      go false p r =
          let here : names n s j ≡ true = sym (or-false (names n s j)) ∙ sym (ap (λ (t : Bool). names n s j || t) p) ∙ e in
          record {
            before = [];
            giver = s;
            after = ss;
            split = refl;
            named = here;
            last = p;
            value = ap₂ (λ (t u : Bool). cond t (value_at n ss was j) (cond u (gives n s j) was)) p here;
          }

  -- the entries one after the other: the first one's value, and then the rest
  pub value_step : (s : Step) (ss : List Step) (was : ℕ) → value_at n (s ∷ ss) was j ≡ value_at n ss (cond (names n s j) (gives n s j) was) j
  unfolding value_at
  value_step s ss was = go (named_in n ss j) refl
    where
      first : ℕ
      first = cond (names n s j) (gives n s j) was

      go : (t : Bool) → named_in n ss j ≡ t → cond (named_in n ss j) (value_at n ss was j) first ≡ value_at n ss first j
      go true p = ap (λ (t : Bool). cond t (value_at n ss was j) first) p ∙ value_named ss was first p
      go false p = ap (λ (t : Bool). cond t (value_at n ss was j) first) p ∙ sym (value_other ss first p)

  -- fewer entries name no more
  named-take : (k : ℕ) (ss : List Step) → named_in n ss j ≡ false → named_in n (take k ss) j ≡ false
  unfolding named_in
  named-take zero ss e = refl
  named-take (suc k) [] e = refl
  named-take (suc k) (s ∷ ss) e = go (names n s j) refl (λ h. named-take k ss h)
    where
      go : (u : Bool) → names n s j ≡ u → (named_in n ss j ≡ false → named_in n (take k ss) j ≡ false) → (names n s j || named_in n (take k ss) j) ≡ false
      go true q r = absurd (true≢false (sym (ap (λ (u : Bool). u || named_in n ss j) q) ∙ e))
      go false q r = ap (λ (u : Bool). u || named_in n (take k ss) j) q ∙ r (sym (ap (λ (u : Bool). u || named_in n ss j) q) ∙ e)

-- ---- the image
module _ (n : ℕ) (ss : List Step) where
  pub replayed-length : (image : List ℕ) → length (replayed n ss image) ≡ length image
  unfolding replayed
  replayed-length image = tabulate-length (λ j. value_at n ss (get_or image j 0) j) (length image)

  -- 1. each place has the last value that the log gives it, or what stood there
  pub replayed_at : (image : List ℕ) (j : ℕ) → j < length image → get_or (replayed n ss image) j 0 ≡ value_at n ss (get_or image j 0) j
  unfolding replayed
  replayed_at image j h = tabulate-get_or (λ i. value_at n ss (get_or image i 0) i) (length image) j h

  pub replayed_other : (image : List ℕ) (j : ℕ) → j < length image → named_in n ss j ≡ false → get_or (replayed n ss image) j 0 ≡ get_or image j 0
  replayed_other image j h e = replayed_at image j h ∙ value_other n j ss (get_or image j 0) e

  -- what is equal at each place to replay's image is that image
  pub replayed_is : (image out : List ℕ) → length out ≡ length image → ((j : ℕ) → j < length image → get_or out j 0 ≡ value_at n ss (get_or image j 0) j) → out ≡ replayed n ss image
  unfolding replayed
  replayed_is image out l f = tabulate_is (λ j. value_at n ss (get_or image j 0) j) (length image) out l f

  -- 2. one and the same image for the table and for an image that differs from it only in named places
  pub same_end : (table image : List ℕ) → OnlyNamed n ss table image → replayed n ss image ≡ replayed n ss table
  same_end table image d =
      replayed_is table (replayed n ss image) (replayed-length image ∙ d.long) (λ j h. replayed_at image j (subst (λ (l : ℕ). j < l) (sym d.long) h) ∙ go j h (named_in n ss j) refl)
    where
      go : (j : ℕ) → j < length table → (b : Bool) → named_in n ss j ≡ b → value_at n ss (get_or image j 0) j ≡ value_at n ss (get_or table j 0) j
      go j h true e = value_named n j ss (get_or image j 0) (get_or table j 0) e
      go j h false e = ap (λ (v : ℕ). value_at n ss v j) (d.others j h e)

-- 3. stops: any number of applied entries, and any bytewise mix, change named places only
module _ (n : ℕ) (ss : List Step) (table : List ℕ) where
  pub part_only : (image : List ℕ) (k : ℕ) → OnlyNamed n ss table image → OnlyNamed n ss table (replayed n (take k ss) image)
  part_only image k d =
      record {
        long = replayed-length n (take k ss) image ∙ d.long;
        others = λ j h e. replayed_other n (take k ss) image j (subst (λ (l : ℕ). j < l) (sym d.long) h) (named-take n j k ss e) ∙ d.others j h e;
      }

  pub mix_only : (a b image : List ℕ) → OnlyNamed n ss table a → OnlyNamed n ss table b → Mix a b image → OnlyNamed n ss table image
  mix_only a b image d e m =
      record {
        long = m.long ∙ d.long;
        others = λ j h q. ⊎_elim (λ p. p ∙ d.others j h q) (λ p. p ∙ e.others j h q) (m.each j (subst (λ (l : ℕ). j < l) (sym d.long) h));
      }

  pub stopped_only : {image : List ℕ} → Stopped n ss table image → OnlyNamed n ss table image
  stopped_only untouched = record { long = refl; others = λ j h q. refl }
  stopped_only (part_applied image k s) = part_only image k (stopped_only s)
  stopped_only (mixed a b image s t m) = mix_only a b image (stopped_only s) (stopped_only t) m

-- 4. replay's image itself differs from the table only in named places, so replaying twice is replaying once
pub replayed_only : (n : ℕ) (ss : List Step) (table : List ℕ) → OnlyNamed n ss table (replayed n ss table)
replayed_only n ss table = record { long = replayed-length n ss table; others = λ j h e. replayed_other n ss table j h e }

pub replayed_twice : (n : ℕ) (ss : List Step) (table : List ℕ) → replayed n ss (replayed n ss table) ≡ replayed n ss table
replayed_twice n ss table = same_end n ss table (replayed n ss table) (replayed_only n ss table)

-- ---- entry by entry, as the code goes
pub replayed_none : (n : ℕ) (image : List ℕ) → image ≡ replayed n [] image
unfolding value_at
replayed_none n image = replayed_is n [] image image refl (λ j h. refl)

pub stepped-length : (n : ℕ) (s : Step) (image : List ℕ) → length (stepped n s image) ≡ length image
stepped-length n s image = tabulate-length (λ j. cond (names n s j) (gives n s j) (get_or image j 0)) (length image)

pub stepped_at : (n : ℕ) (s : Step) (image : List ℕ) (j : ℕ) → j < length image → get_or (stepped n s image) j 0 ≡ cond (names n s j) (gives n s j) (get_or image j 0)
stepped_at n s image j h = tabulate-get_or (λ i. cond (names n s i) (gives n s i) (get_or image i 0)) (length image) j h

-- the step "keeps every byte but those its entry names"
pub stepped_other : (n : ℕ) (s : Step) (image : List ℕ) (j : ℕ) → j < length image → names n s j ≡ false → get_or (stepped n s image) j 0 ≡ get_or image j 0
stepped_other n s image j h e = stepped_at n s image j h ∙ ap (λ (b : Bool). cond b (gives n s j) (get_or image j 0)) e

pub replayed_step : (n : ℕ) (s : Step) (ss : List Step) (image : List ℕ) → replayed n (s ∷ ss) image ≡ replayed n ss (stepped n s image)
replayed_step n s ss image =
    replayed_is n ss (stepped n s image) (replayed n (s ∷ ss) image) (replayed-length n (s ∷ ss) image ∙ sym (stepped-length n s image))
    (λ j h. let l : j < length image = subst (λ (m : ℕ). j < m) (stepped-length n s image) h in
    replayed_at n (s ∷ ss) image j l ∙ value_step n j s ss (get_or image j 0) ∙ ap (λ (v : ℕ). value_at n ss v j) (sym (stepped_at n s image j l)))

-- the entries in two parts: the first part, and then the rest
pub replayed-append : (n : ℕ) (ss ts : List Step) (image : List ℕ) → replayed n (ss ++ ts) image ≡ replayed n ts (replayed n ss image)
replayed-append n [] ts image = ap (replayed n ts) (replayed_none n image)
replayed-append n (s ∷ ss) ts image =
    replayed_step n s (ss ++ ts) image ∙ replayed-append n ss ts (stepped n s image) ∙ ap (replayed n ts) (sym (replayed_step n s ss image))

-- one entry more at the end is its step
pub replayed-snoc : (n : ℕ) (ss : List Step) (s : Step) (image : List ℕ) → replayed n (ss ++ (s ∷ [])) image ≡ stepped n s (replayed n ss image)
replayed-snoc n ss s image =
    replayed-append n ss (s ∷ []) image ∙ replayed_step n s [] (replayed n ss image) ∙ sym (replayed_none n (stepped n s (replayed n ss image)))

-- "A clear sets the tag alone": it names no other place, so it undoes no slot of an earlier update
pub clear_names_tag : (n b j : ℕ) → entry_names n (clear b) j ≡ eqb j b
unfolding entry_names
clear_names_tag n b j = refl
