-- What is shown at a position, test by test, and that an answer is determined by what it says. Assumes nothing.
use mathlib.Core.Path.{◌≡◌, ap, ◌∙◌}
use mathlib.Core.Bool.{Bool, cond}
use mathlib.Core.List.{List}
use Prim.Native.Nat.{ℕ, ◌≤◌, ◌<◌}
use native.Mathlib.Omega.{arith}
use lib.ListN.{length}
use borrow.Author.Tests.{le-leb, lt-leb, eq-eqb, ne_eqb}
use Rattle.std.specs.Prelude.{Result, Ok, Err}
use Rattle.answers.specs.Refusals.{number_of}
use Rattle.answers.specs.declared.Refusal.{Refusal}
use Rattle.answers.proofs.Laws.{refusal_one}
use Rattle.wal.specs.Reader.{Next, edition_at, start_of, next_at}
use Rattle.wal_list.specs.Lines.{ascii, refused_line}
use Rattle.wal_list.specs.Shown.{last, started, first_shown, next_shown, shown_at, line_said}
use Rattle.wal_list.specs.declared.Line.{Line}
use Rattle.wal_list.specs.declared.Line.TheVariants as line

module _ (log : List ℕ) where
  pub first_long : 65536 < length log → first_shown log ≡ last (refused_line 0 2)
  unfolding first_shown
  first_long h = simp (lt-leb (length log) 65536 h)

  pub first_none : length log ≡ 0 → first_shown log ≡ last (ascii "empty\n")
  unfolding first_shown
  first_none e = simp (le-leb (length log) 65536 (omega arith), eq-eqb (length log) 0 e)

  pub first_start : length log ≤ 65536 → (length log ≡ 0 → ⊥) → first_shown log ≡ started (edition_at log) (start_of log)
  unfolding first_shown
  first_start h n = simp (le-leb (length log) 65536 h, ne_eqb (length log) 0 n)

  pub shown_next : (at : ℕ) (n : Next) → (at ≡ 0 → ⊥) → next_at (edition_at log) log at ≡ n → shown_at log at ≡ next_shown n at
  shown_next at n e h = ap (λ (b : Bool). cond b (first_shown log) (next_shown (next_at (edition_at log) log at) at)) (ne_eqb at 0 e) ∙ ap (λ (m : Next). next_shown m at) h

-- ---- two answers that the contract allows for one input are equal
pub line_one : (a b : Result Line Refusal) → line_said a ≡ line_said b → a ≡ b
line_one (Ok (line.More n p)) (Ok (line.More m q)) e = let f : n ≡ m = cc in let g : p ≡ q = cc in cc
line_one (Ok (line.More n p)) (Ok (line.Last m)) e = cc
line_one (Ok (line.More n p)) (Err s) e = cc
line_one (Ok (line.Last n)) (Ok (line.More m q)) e = cc
line_one (Ok (line.Last n)) (Ok (line.Last m)) e = let f : n ≡ m = cc in cc
line_one (Ok (line.Last n)) (Err s) e = cc
line_one (Err r) (Ok (line.More m q)) e = cc
line_one (Err r) (Ok (line.Last m)) e = cc
line_one (Err r) (Err s) e = let f : number_of r ≡ number_of s = cc in ap Err (refusal_one r s f)
