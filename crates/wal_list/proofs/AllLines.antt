-- The lines that are shown one after the other are the lines of the log; each is short, and leads on within the log. Assumes nothing.
use mathlib.Core.Path.{◌≡◌, refl, sym, ap, ◌∙◌}
use mathlib.Core.Bool.{Bool, true, false, cond}
use mathlib.Core.List.{List, ◌++◌, append_assoc}
use Prim.Native.Nat.{ℕ, zero, suc, ◌+◌, ◌≤◌, ◌<◌}
use native.Mathlib.Nat.{lt_of_not-le}
use native.Mathlib.Decide.{dec_le}
use native.Mathlib.Omega.{arith}
use lib.Dec.{leb, eqb}
use lib.ListN.{length, length-append}
use borrow.Author.Tests.{le-leb, lt-leb, eq-eqb, ne_eqb, eqb-true}
use Rattle.answers.specs.Answers.{Answer, given, refused}
use Rattle.page_diff.specs.Diff.{count_of}
use Rattle.wal.specs.Log.{Entry, clear, update, start_size}
use Rattle.wal.specs.Reader.{Next, next, ended, stopped, edition_at, start_of, next_at, Reading, stop_at, and_then, read_from}
use Rattle.wal.specs.declared.Edition.{Edition}
use Rattle.wal.specs.declared.Edition.TheVariants.{One, Two}
use Rattle.wal.specs.declared.AfterEnd.TheVariants.{Tolerant}
use Rattle.wal_read.proofs.NextLaws.{start_long, next_past}
use Rattle.wal_read.proofs.ReadLaws.{moves, clear_moves, update_moves, read_entry_lem, read_end, read_stop}
use Rattle.wal_list.specs.Lines.{ascii, decimal, start_line, entry_line, refused_line, size_of, entry_lines, stop_line, reading_lines, started_lines, lines_of}
use Rattle.wal_list.specs.Shown.{Shown, more, last, started, first_shown, next_shown, shown_at, text_of}
use Rattle.wal_list.proofs.Decimal.{decimal-length}
use Rattle.wal_list.proofs.ShownLaws.{first_long, first_none, first_start, shown_next}

-- the lines from a position on, one after the other, by a bound on how many follow
abbrev pub and_on : Shown → (ℕ → List ℕ) → List ℕ
and_on (more t p) rest = t ++ rest p
and_on (last t) rest = t

unfoldable pub lines_in : ℕ → List ℕ → ℕ → List ℕ
lines_in zero log at = text_of (shown_at log at)
lines_in (suc f) log at = and_on (shown_at log at) (lines_in f log)

-- a start is shorter than a page
pub start_few : (ed : Edition) → start_size ed ≤ 4096
start_few One = omega arith
start_few Two = omega arith

-- the position after an entry is its own and its size
size_moves : (ed : Edition) (log : List ℕ) (at : ℕ) (e : Entry) (p : ℕ) → next_at ed log at ≡ next e p → p ≡ at + size_of ed e
size_moves ed log at (clear b) p h = clear_moves Tolerant ed log at b p h
size_moves ed log at (update id ws ns elided b) p h = (update_moves Tolerant ed log at id ws ns elided b p h).after

-- a reading's lines, by what stands first
reading_entry : (ed : Edition) (at p : ℕ) (e : Entry) (r : Reading) → p ≡ at + size_of ed e → entry_line at e ++ reading_lines ed p r ≡ reading_lines ed at (and_then e r)
unfolding entry_lines
reading_entry ed at p e r h =
    ap (λ (q : ℕ). entry_line at e ++ reading_lines ed q r) h ∙ sym (append_assoc (entry_line at e) (entry_lines ed (at + size_of ed e) r.entries) (stop_line r.at r.stop))

reading_stop : (ed : Edition) (at : ℕ) (a : Answer (Unit {0})) → stop_line at a ≡ reading_lines ed at (stop_at at a)
unfolding entry_lines
reading_stop ed at a = refl

-- from the first entry on
pub lines_from : (f : ℕ) (log : List ℕ) (at : ℕ) → (at ≡ 0 → ⊥) → length log ≤ at + f → lines_in f log at ≡ reading_lines (edition_at log) at (read_from Tolerant (edition_at log) log at)
unfolding lines_in
lines_from zero log at n h =
    let ed = edition_at log in
    let e = next_past ed log at (omega arith) in
    ap text_of (shown_next log at (stopped 6) n e) ∙ reading_stop ed at (refused 6) ∙ sym (ap (reading_lines ed at) (read_stop Tolerant ed log at 6 e))
lines_from (suc f) log at n h = go (next_at (edition_at log) log at) refl (lines_from f log)
  where
    ed : Edition
    ed = edition_at log

    go : (x : Next) → next_at ed log at ≡ x → ((p : ℕ) → (p ≡ 0 → ⊥) → length log ≤ p + f → lines_in f log p ≡ reading_lines ed p (read_from Tolerant ed log p)) → and_on (shown_at log at) (lines_in f log) ≡ reading_lines ed at (read_from Tolerant ed log at)
    go (next e p) i r =
        let m = moves Tolerant ed log at e p i in
        ap (λ (s : Shown). and_on s (lines_in f log)) (shown_next log at (next e p) n i)
        ∙ ap (λ (t : List ℕ). entry_line at e ++ t) (r p (λ z. omega arith) (omega arith))
        ∙ reading_entry ed at p e (read_from Tolerant ed log p) (size_moves ed log at e p i)
        ∙ sym (ap (reading_lines ed at) (read_entry_lem Tolerant ed log at e p i))
    go ended i r = ap (λ (s : Shown). and_on s (lines_in f log)) (shown_next log at ended n i) ∙ reading_stop ed at (given tt) ∙ sym (ap (reading_lines ed at) (read_end Tolerant ed log at i))
    go (stopped k) i r = ap (λ (s : Shown). and_on s (lines_in f log)) (shown_next log at (stopped k) n i) ∙ reading_stop ed at (refused k) ∙ sym (ap (reading_lines ed at) (read_stop Tolerant ed log at k i))

-- the definition, test by test
module _ (log : List ℕ) where
  pub lines_long : 65536 < length log → lines_of log ≡ refused_line 0 2
  unfolding lines_of
  lines_long h = simp (lt-leb (length log) 65536 h)

  pub lines_none : length log ≡ 0 → lines_of log ≡ ascii "empty\n"
  unfolding lines_of
  lines_none e = simp (le-leb (length log) 65536 (omega arith), eq-eqb (length log) 0 e)

  pub lines_start : length log ≤ 65536 → (length log ≡ 0 → ⊥) → lines_of log ≡ started_lines (start_of log) log
  unfolding lines_of
  lines_start h n = simp (le-leb (length log) 65536 h, ne_eqb (length log) 0 n)

-- all lines of a log: the one at 0, and those that follow, which are at most as many as the log has bytes
pub all_lines : (f : ℕ) (log : List ℕ) → length log ≤ f → lines_in (suc f) log 0 ≡ lines_of log
unfolding lines_in
all_lines f log h = go (dec_le (length log) 65536) (dec_le (length log) 0) (start_of log) refl
  where
    go : Dec (length log ≤ 65536) → Dec (length log ≤ 0) → (a : Answer ℕ) → start_of log ≡ a → and_on (first_shown log) (lines_in f log) ≡ lines_of log
    go (no p) d a s = ap (λ (x : Shown). and_on x (lines_in f log)) (first_long log (lt_of_not-le p)) ∙ sym (lines_long log (lt_of_not-le p))
    go (yes p) (yes d) a s = ap (λ (x : Shown). and_on x (lines_in f log)) (first_none log (omega arith)) ∙ sym (lines_none log (omega arith))
    go (yes p) (no d) (given sync) s =
        let some : length log ≡ 0 → ⊥ = λ e. omega arith in
        ap (λ (x : Shown). and_on x (lines_in f log)) (first_start log p some ∙ ap (started (edition_at log)) s)
        ∙ ap (λ (t : List ℕ). start_line sync ++ t) (lines_from f log (start_size (edition_at log)) (λ e. omega arith) (omega arith))
        ∙ sym (lines_start log p some ∙ ap (λ (a : Answer ℕ). started_lines a log) s)
    go (yes p) (no d) (refused k) s =
        let some : length log ≡ 0 → ⊥ = λ e. omega arith in
        ap (λ (x : Shown). and_on x (lines_in f log)) (first_start log p some ∙ ap (started (edition_at log)) s) ∙ sym (lines_start log p some ∙ ap (λ (a : Answer ℕ). started_lines a log) s)

-- ---- no line is longer than 80 bytes
pub short_field : (at n : ℕ) (w : List ℕ) → length w ≤ 9 → length (decimal at ++ w ++ decimal n ++ ascii "\n") ≤ 80
short_field at n w h =
    omega (arith, decimal-length at, decimal-length n, length-append (decimal at ++ w ++ decimal n) (ascii "\n"), length-append (decimal at ++ w) (decimal n), length-append (decimal at) w)

short_entry : (at : ℕ) (e : Entry) → length (entry_line at e) ≤ 80
short_entry at (clear b) = short_field at b (ascii " clear ") (omega arith)
short_entry at (update id ws ns elided b) =
    let u : List ℕ = decimal at ++ ascii " update " in
    let c : List ℕ = decimal (count_of ws) in
    omega (
      arith,
      decimal-length at,
      decimal-length b,
      decimal-length (count_of ws),
      length-append (u ++ decimal b ++ ascii " " ++ c) (ascii "\n"),
      length-append (u ++ decimal b ++ ascii " ") c,
      length-append (u ++ decimal b) (ascii " "),
      length-append u (decimal b),
      length-append (decimal at) (ascii " update "),
    )

short_next : (n : Next) (at : ℕ) → length (text_of (next_shown n at)) ≤ 80
short_next (next e p) at = short_entry at e
short_next ended at = omega (arith, decimal-length at, length-append (decimal at) (ascii " end\n"))
short_next (stopped k) at = short_field at k (ascii " refused ") (omega arith)

short_started : (ed : Edition) (a : Answer ℕ) → length (text_of (started ed a)) ≤ 80
short_started ed (given sync) = short_field 0 sync (ascii " start ") (omega arith)
short_started ed (refused k) = short_field 0 k (ascii " refused ") (omega arith)

short_first : (log : List ℕ) → length (text_of (first_shown log)) ≤ 80
unfolding first_shown
short_first log = go (leb (length log) 65536) (eqb (length log) 0)
  where
    go : (a b : Bool) → length (text_of (cond a (cond b (last (ascii "empty\n")) (started (edition_at log) (start_of log))) (last (refused_line 0 2)))) ≤ 80
    go false b = short_field 0 2 (ascii " refused ") (omega arith)
    go true true = omega arith
    go true false = short_started (edition_at log) (start_of log)

pub text_short : (log : List ℕ) (at : ℕ) → length (text_of (shown_at log at)) ≤ 80
text_short log at = go (eqb at 0)
  where
    go : (b : Bool) → length (text_of (cond b (first_shown log) (next_shown (next_at (edition_at log) log at) at))) ≤ 80
    go true = short_first log
    go false = short_next (next_at (edition_at log) log at) at

-- ---- a line that is not the last leads on, within the log
pub record Leads (log : List ℕ) (at p : ℕ) : Type 0 where
  pub on : at < p
  pub within : p ≤ length log

first_leads : (log : List ℕ) (t : List ℕ) (p : ℕ) → first_shown log ≡ more t p → Leads log 0 p
unfolding first_shown
first_leads log t p h = go (leb (length log) 65536) (eqb (length log) 0) (start_of log) refl h
  where
    go : (a b : Bool) (s : Answer ℕ) → start_of log ≡ s → cond a (cond b (last (ascii "empty\n")) (started (edition_at log) s)) (last (refused_line 0 2)) ≡ more t p → Leads log 0 p
    go false b s e h = let z : ◌≡◌ {A = ℕ} 0 1 = cc in absurd (omega arith)
    go true true s e h = let z : ◌≡◌ {A = ℕ} 0 1 = cc in absurd (omega arith)
    go true false (given sync) e h = let q : p ≡ start_size (edition_at log) = cc in record { on = omega arith; within = omega (arith, start_long (edition_at log) log sync e, start_few (edition_at log)) }
    go true false (refused k) e h = let z : ◌≡◌ {A = ℕ} 0 1 = cc in absurd (omega arith)

next_leads : (log : List ℕ) (at : ℕ) (t : List ℕ) (p : ℕ) → next_shown (next_at (edition_at log) log at) at ≡ more t p → Leads log at p
next_leads log at t p h = go (next_at (edition_at log) log at) refl h
  where
    go : (n : Next) → next_at (edition_at log) log at ≡ n → next_shown n at ≡ more t p → Leads log at p
    go (next e q) i h = let s : q ≡ p = cc in let m = moves Tolerant (edition_at log) log at e q i in record { on = omega arith; within = omega arith }
    go ended i h = let z : ◌≡◌ {A = ℕ} 0 1 = cc in absurd (omega arith)
    go (stopped k) i h = let z : ◌≡◌ {A = ℕ} 0 1 = cc in absurd (omega arith)

pub shown_leads : (log : List ℕ) (at : ℕ) (t : List ℕ) (p : ℕ) → shown_at log at ≡ more t p → Leads log at p
shown_leads log at t p h = go (eqb at 0) refl h
  where
    go : (b : Bool) → eqb at 0 ≡ b → cond b (first_shown log) (next_shown (next_at (edition_at log) log at) at) ≡ more t p → Leads log at p
    go true e h = let m = first_leads log t p h in let z : at ≡ 0 = eqb-true at 0 e in record { on = omega arith; within = omega arith }
    go false e h = next_leads log at t p h
