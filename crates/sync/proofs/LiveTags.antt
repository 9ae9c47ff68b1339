-- A change's effect on the tags is its entry's: the value that replay gives the tag of the entry's bucket. Assumes nothing.
use mathlib.Core.Path.{◌≡◌, refl, sym, ap, ◌∙◌}
use mathlib.Core.Bool.{Bool, true, false, cond}
use mathlib.Core.List.{List, map}
use Prim.Native.Nat.{ℕ, ◌-◌, ◌<◌}
use native.Mathlib.Omega.{arith}
use lib.Dec.{ltb, eqb}
use lib.ListN.{length, get_or}
use borrow.Author.Tests.{eqb-true}
use Rattle.answers.specs.Answers.{Answer, given, refused}
use Rattle.blocks.specs.Blocks.{block}
use Rattle.ht_file.specs.Places.{page_start}
use Rattle.meta_map.specs.Tags.{full_tag}
use Rattle.page_diff.specs.Diff.{marked, slots}
use Rattle.page_diff.specs.Pack.{node_at}
use Rattle.recover.specs.Places.{page_gives, entry_gives}
use Rattle.sync_parts.specs.Parts.{Named, bucket, none, named_by, tag_fits}
use Rattle.sync.specs.Change.{where_of, Mem, updates, does_with, by_named, does_of, Effect, cleared, updated, allocated, bucket_of, effect_of, entry_by, tags_by}
use Rattle.sync.specs.declared.Change.{Change}
use Rattle.sync.specs.declared.SyncState.{SyncState}
use Rattle.sync.proofs.Accepted.{after_updated, accepted_change}
use Rattle.sync.proofs.Plans.{past_spare}
use Rattle.sync.proofs.Untouched.{set_at}

-- a named bucket that is to be updated has the hash's tag
named_bucket : (cl t u : Bool) (x b : ℕ) → cond t (cond u (given (does_with cl x)) (refused 14)) (refused 9) ≡ given (updates b) → (cl ≡ false) × (u ≡ true) × (x ≡ b)
named_bucket false true true x b r = (refl, refl, cc)
named_bucket true true true x b r = let z : ◌≡◌ {A = ℕ} 0 1 = cc in absurd (omega arith)
named_bucket true true false x b r = let z : ◌≡◌ {A = ℕ} 0 1 = cc in absurd (omega arith)
named_bucket false true false x b r = let z : ◌≡◌ {A = ℕ} 0 1 = cc in absurd (omega arith)
named_bucket true false u x b r = let z : ◌≡◌ {A = ℕ} 0 1 = cc in absurd (omega arith)
named_bucket false false u x b r = let z : ◌≡◌ {A = ℕ} 0 1 = cc in absurd (omega arith)

named_tag : (cl : Bool) (n : ℕ) (tags : List ℕ) (h : ℕ) (a : Answer Named) (b : ℕ) → by_named cl n tags h a ≡ given (updates b) → get_or tags b 0 ≡ full_tag h
named_tag cl n tags h (refused k) b e = let z : ◌≡◌ {A = ℕ} 0 1 = cc in absurd (omega arith)
named_tag true n tags h (given none) b e = let z : ◌≡◌ {A = ℕ} 0 1 = cc in absurd (omega arith)
named_tag false n tags h (given none) b e = let z : ◌≡◌ {A = ℕ} 0 1 = cc in absurd (omega arith)
named_tag cl n tags h (given (bucket x)) b e =
    let q = named_bucket cl (ltb x n) (tag_fits h (get_or tags x 0)) x b e in
    sym (ap (λ (y : ℕ). get_or tags y 0) q.2) ∙ eqb-true (get_or tags x 0) (full_tag h) q.1

twice : (t : Bool) (x y z : ℕ) → cond t x z ≡ cond t (cond t x y) z
twice true x y z = refl
twice false x y z = refl

pub tags_as_entry : (st : SyncState) (m : Mem) (page : List ℕ) (c : Change) (e : Effect) → effect_of st m page c ≡ given e → (i : ℕ) → i < length m.tags → get_or (tags_by e c.hash m.tags) i 0
    ≡ cond (eqb i (bucket_of e)) (entry_gives st.n (entry_by c page e) c.hash i) (get_or m.tags i 0)
unfolding entry_gives
tags_as_entry st m page c (cleared b) h i l = set_at b i 0x7F m.tags l
tags_as_entry st m page c (allocated b) h i l =
    set_at b i (full_tag c.hash) m.tags l ∙ twice (eqb i b) (full_tag c.hash) _ (get_or m.tags i 0)
tags_as_entry st m page c (updated b) h i l = go (eqb i b) refl
  where
    tag : get_or m.tags b 0 ≡ full_tag c.hash
    tag =
        let d = after_updated st m c (does_of st.n m.tags m.cells c) b (accepted_change st m page c (updated b) h).2 in
        named_tag (marked c.diff.words 127) st.n m.tags c.hash (named_by (where_of c.place) m.cells) b (past_spare st.n m.tags m.cells c (updates b) d.0).1

    go : (t : Bool) → eqb i b ≡ t → get_or m.tags i 0 ≡ cond t (entry_gives st.n (entry_by c page (updated b)) c.hash i) (get_or m.tags i 0)
    go false q = refl
    go true q =
        ap (λ (x : ℕ). get_or m.tags x 0) (eqb-true i b q) ∙ tag
        ∙ sym (ap (λ (x : Bool). cond x (full_tag c.hash) (page_gives c.id c.diff.words (map (node_at page) (slots c.diff.words)) (block 8 page 4056) (i - page_start st.n b))) q)
