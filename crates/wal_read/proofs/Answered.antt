-- The entry that is answered, by what stands at the position; and that an answer is determined by what it says. Assumes nothing.
use mathlib.Core.Path.{◌≡◌, refl, sym, ap, ◌∙◌, subst}
use mathlib.Core.List.{List, []}
use Prim.Native.Nat.{ℕ, ◌+◌, ◌*◌}
use native.Mathlib.Omega.{arith}
use lib.ListN.{length, replicate}
use Rattle.std.specs.Prelude.{Result, Ok, Err}
use Rattle.answers.specs.Refusals.{number_of}
use Rattle.answers.specs.declared.Refusal.{Refusal}
use Rattle.answers.proofs.Laws.{refusal_one}
use Rattle.blocks.specs.Blocks.{le, block}
use Rattle.page_diff.specs.Diff.{count_of, read_words}
use Rattle.page_diff.specs.Pack.{packed_by}
use Rattle.page_diff.specs.declared.Packed.{Packed}
use Rattle.wal.specs.Log.{clear, mark_size}
use Rattle.wal.specs.Reader.{Next, next, ended, stopped, nodes_from, diff_at, update_of, next_by}
use Rattle.wal.specs.declared.AfterEnd.{AfterEnd}
use Rattle.wal.specs.declared.Edition.{Edition}
use Rattle.wal_read.specs.Head.{head_said}
use Rattle.wal_read.specs.Entry.{updates, what_said, rows, Taken}
use Rattle.wal_read.specs.InnerEntry.{Bare}
use Rattle.wal_read.specs.declared.Head.{Head}
use Rattle.wal_read.specs.declared.Head.TheVariants as head
use Rattle.wal_read.specs.declared.What.{What}
use Rattle.wal_read.specs.declared.What.TheVariants as what
use Rattle.wal_read.specs.declared.WalEntry.{WalEntry}
use Rattle.wal_read.proofs.NextLaws.{read_words_lem}
use Rattle.wal_read.proofs.Nodes.{nodes-length}
use Rattle.wal_read.proofs.ReadLaws.{There}

-- ---- what stands there and is no update
bare_packed : (p : Packed) → p ≡ packed_by (replicate 126 (replicate 32 0)) 0 → p ≡ packed_by (rows []) 0
unfolding rows
bare_packed p e = e

module _ (at p : ℕ) (e : WalEntry) where
  pub bare_clear : (n : Next) (b : ℕ) → n ≡ next (clear b) p → Bare (Ok (what.Clear b)) p e → Taken n at e
  bare_clear n b h k =
      subst (λ (m : Next). Taken m at e) (sym h)
      (record { what_is = ap what_said k.what_is; id_is = k.id_is; diff_is = k.diff_is; packed_is = bare_packed e.packed k.packed_is; elided_is = k.elided_is; next_is = k.next_is })

module _ (at : ℕ) (e : WalEntry) where
  pub bare_end : (n : Next) → n ≡ ended → Bare (Ok what.End) at e → Taken n at e
  bare_end n h k =
      subst (λ (m : Next). Taken m at e) (sym h)
      (record { what_is = ap what_said k.what_is; id_is = k.id_is; diff_is = k.diff_is; packed_is = bare_packed e.packed k.packed_is; elided_is = k.elided_is; next_is = k.next_is })

  pub bare_stop : (n : Next) (r : Refusal) → n ≡ stopped (number_of r) → Bare (Err r) at e → Taken n at e
  bare_stop n r h k =
      subst (λ (m : Next). Taken m at e) (sym h)
      (record { what_is = ap what_said k.what_is; id_is = k.id_is; diff_is = k.diff_is; packed_is = bare_packed e.packed k.packed_is; elided_is = k.elided_is; next_is = k.next_is })

-- ---- an update, field by field
module _ (rule : AfterEnd) (ed : Edition) (log : List ℕ) (at b c p : ℕ) (e : WalEntry) (t : There rule ed log at b c p) where
  abbrev body : ℕ
  body = at + mark_size ed

  -- the fields as they are read m bytes after the mark's first
  pub update_taken : (m : ℕ) → m ≡ mark_size ed → e.what ≡ Ok (what.Update b) → e.id ≡ block 32 log (at + m) → e.diff.words ≡ read_words (block 16 log (at + m + 32)) → e.packed ≡ packed_by (rows (nodes_from log (at + m + 48) c)) c
      → e.elided ≡ block 8 log (at + m + 48 + 32 * c) → e.next ≡ p → Taken (next_by rule ed log at) at e
  unfolding update_of
  update_taken m same-mark w i d k l n =
      let same : c ≡ count_of (diff_at log body) = t.count in
      let many : length (nodes_from log (body + 48) c) ≡ c = nodes-length log (body + 48) c in
      subst (λ (m : Next). Taken m at e) (sym t.here)
      (record {
        what_is = ap what_said w ∙ ap updates (t.bucket ∙ ap (λ (j : ℕ). le (block 8 log (body + 56 + 32 * j))) same);
        id_is = i ∙ ap (λ (j : ℕ). block 32 log (at + j)) same-mark;
        diff_is = d ∙ ap (λ (j : ℕ). read_words (block 16 log (at + j + 32))) same-mark ∙ read_words_lem (block 16 log (body + 32)) t.plain;
        packed_is =
            k ∙ ap (λ (j : ℕ). packed_by (rows (nodes_from log (at + j + 48) c)) c) same-mark
            ∙ ap (λ (j : ℕ). packed_by (rows (nodes_from log (body + 48) c)) j) (sym many) ∙ ap (λ (j : ℕ). packed_by (rows (nodes_from log (body + 48) j)) (length (nodes_from log (body + 48) j))) same;
        elided_is = l ∙ ap (λ (j : ℕ). block 8 log (at + j + 48 + 32 * c)) same-mark ∙ ap (λ (j : ℕ). block 8 log (body + 48 + 32 * j)) same;
        next_is = n;
      })

-- ---- two answers that a contract allows for one input are equal
pub head_one : (a b : Result Head Refusal) → head_said a ≡ head_said b → a ≡ b
head_one (Ok (head.Clear b p)) (Ok (head.Clear a q)) e = let f : b ≡ a = cc in let g : p ≡ q = cc in cc
head_one (Ok (head.Clear b p)) (Ok (head.Update a c q)) e = let z : ◌≡◌ {A = ℕ} 0 1 = cc in absurd (omega arith)
head_one (Ok (head.Clear b p)) (Ok head.End) e = let z : ◌≡◌ {A = ℕ} 0 1 = cc in absurd (omega arith)
head_one (Ok (head.Clear b p)) (Err s) e = let z : ◌≡◌ {A = ℕ} 0 1 = cc in absurd (omega arith)
head_one (Ok (head.Update b c p)) (Ok (head.Clear a q)) e = let z : ◌≡◌ {A = ℕ} 0 1 = cc in absurd (omega arith)
head_one (Ok (head.Update b c p)) (Ok (head.Update a d q)) e = let f : b ≡ a = cc in let g : p ≡ q = cc in let h : c ≡ d = cc in cc
head_one (Ok (head.Update b c p)) (Ok head.End) e = let z : ◌≡◌ {A = ℕ} 0 1 = cc in absurd (omega arith)
head_one (Ok (head.Update b c p)) (Err s) e = let z : ◌≡◌ {A = ℕ} 0 1 = cc in absurd (omega arith)
head_one (Ok head.End) (Ok (head.Clear a q)) e = let z : ◌≡◌ {A = ℕ} 0 1 = cc in absurd (omega arith)
head_one (Ok head.End) (Ok (head.Update a d q)) e = let z : ◌≡◌ {A = ℕ} 0 1 = cc in absurd (omega arith)
head_one (Ok head.End) (Ok head.End) e = refl
head_one (Ok head.End) (Err s) e = let z : ◌≡◌ {A = ℕ} 0 1 = cc in absurd (omega arith)
head_one (Err r) (Ok (head.Clear a q)) e = let z : ◌≡◌ {A = ℕ} 0 1 = cc in absurd (omega arith)
head_one (Err r) (Ok (head.Update a d q)) e = let z : ◌≡◌ {A = ℕ} 0 1 = cc in absurd (omega arith)
head_one (Err r) (Ok head.End) e = let z : ◌≡◌ {A = ℕ} 0 1 = cc in absurd (omega arith)
head_one (Err r) (Err s) e = let f : number_of r ≡ number_of s = cc in ap Err (refusal_one r s f)

pub what_one : (a b : Result What Refusal) → what_said a ≡ what_said b → a ≡ b
what_one (Ok (what.Clear b)) (Ok (what.Clear a)) e = let f : b ≡ a = cc in cc
what_one (Ok (what.Clear b)) (Ok (what.Update a)) e = let z : ◌≡◌ {A = ℕ} 0 1 = cc in absurd (omega arith)
what_one (Ok (what.Clear b)) (Ok what.End) e = let z : ◌≡◌ {A = ℕ} 0 1 = cc in absurd (omega arith)
what_one (Ok (what.Clear b)) (Err s) e = let z : ◌≡◌ {A = ℕ} 0 1 = cc in absurd (omega arith)
what_one (Ok (what.Update b)) (Ok (what.Clear a)) e = let z : ◌≡◌ {A = ℕ} 0 1 = cc in absurd (omega arith)
what_one (Ok (what.Update b)) (Ok (what.Update a)) e = let f : b ≡ a = cc in cc
what_one (Ok (what.Update b)) (Ok what.End) e = let z : ◌≡◌ {A = ℕ} 0 1 = cc in absurd (omega arith)
what_one (Ok (what.Update b)) (Err s) e = let z : ◌≡◌ {A = ℕ} 0 1 = cc in absurd (omega arith)
what_one (Ok what.End) (Ok (what.Clear a)) e = let z : ◌≡◌ {A = ℕ} 0 1 = cc in absurd (omega arith)
what_one (Ok what.End) (Ok (what.Update a)) e = let z : ◌≡◌ {A = ℕ} 0 1 = cc in absurd (omega arith)
what_one (Ok what.End) (Ok what.End) e = refl
what_one (Ok what.End) (Err s) e = let z : ◌≡◌ {A = ℕ} 0 1 = cc in absurd (omega arith)
what_one (Err r) (Ok (what.Clear a)) e = let z : ◌≡◌ {A = ℕ} 0 1 = cc in absurd (omega arith)
what_one (Err r) (Ok (what.Update a)) e = let z : ◌≡◌ {A = ℕ} 0 1 = cc in absurd (omega arith)
what_one (Err r) (Ok what.End) e = let z : ◌≡◌ {A = ℕ} 0 1 = cc in absurd (omega arith)
what_one (Err r) (Err s) e = let f : number_of r ≡ number_of s = cc in ap Err (refusal_one r s f)

-- an entry is its fields
abbrev entry : Result What Refusal → List ℕ → List ℕ → Packed → List ℕ → ℕ → WalEntry
entry w i ws k l n = record { what = w; id = i; diff = record { words = ws }; packed = k; elided = l; next = n }

pub entry_one : (n : Next) (at : ℕ) (a b : WalEntry) → Taken n at a → Taken n at b → a ≡ b
entry_one n at a b s t =
    let w : a.what ≡ b.what = what_one a.what b.what (s.what_is ∙ sym t.what_is) in
    let i : a.id ≡ b.id = s.id_is ∙ sym t.id_is in
    let d : a.diff.words ≡ b.diff.words = s.diff_is ∙ sym t.diff_is in
    let k : a.packed ≡ b.packed = s.packed_is ∙ sym t.packed_is in
    let l : a.elided ≡ b.elided = s.elided_is ∙ sym t.elided_is in
    let p : a.next ≡ b.next = s.next_is ∙ sym t.next_is in
    λ j. entry (w j) (i j) (d j) (k j) (l j) (p j)
