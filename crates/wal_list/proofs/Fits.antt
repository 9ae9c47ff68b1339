-- The lines of any log have at most four bytes for each of its bytes and 80: a record's line is short against the record, since an
-- offset has at most five digits. Assumes nothing.
use mathlib.Core.Path.{◌≡◌, refl, sym, ap, ◌∙◌}
use mathlib.Core.List.{List, ◌++◌}
use Prim.Native.Nat.{ℕ, zero, suc, ◌+◌, ◌*◌, ◌≤◌}
use native.Mathlib.Nat.{lt_of_not-le}
use native.Mathlib.Decide.{dec_le}
use native.Mathlib.Omega.{arith}
use lib.ListN.{length, length-append}
use Rattle.answers.specs.Answers.{Answer, given, refused}
use Rattle.page_diff.specs.Diff.{count_of}
use Rattle.wal.specs.Log.{Entry, clear, update, start_size}
use Rattle.wal.specs.Reader.{Next, next, ended, stopped, edition_at, start_of, next_at}
use Rattle.wal.specs.declared.Edition.{Edition}
use Rattle.wal.specs.declared.AfterEnd.TheVariants.{Tolerant}
use Rattle.wal.proofs.Records.{mark_some}
use Rattle.wal_read.proofs.NextLaws.{start_long}
use Rattle.wal_read.proofs.ReadLaws.{moves, clear_moves, update_moves}
use Rattle.wal_list.specs.Lines.{ascii, decimal, start_line, entry_line, started_lines, most, lines_of}
use Rattle.wal_list.specs.Shown.{Shown, text_of, shown_at}
use Rattle.wal_list.proofs.Decimal.{decimal-length, offset-length}
use Rattle.wal_list.proofs.ShownLaws.{shown_next}
use Rattle.wal_list.proofs.AllLines.{and_on, lines_in, lines_from, lines_long, lines_none, lines_start, start_few, short_field}

-- a line of one field, at an offset
field : (at n : ℕ) (w : List ℕ) → at ≤ 65536 → length (decimal at ++ w ++ decimal n ++ ascii "\n") ≤ length w + 26
field at n w h =
    omega (arith, offset-length at h, decimal-length n, length-append (decimal at ++ w ++ decimal n) (ascii "\n"), length-append (decimal at ++ w) (decimal n), length-append (decimal at) w)

-- an entry's line against the entry
entry_fits : (ed : Edition) (log : List ℕ) (at : ℕ) (e : Entry) (p : ℕ) → at ≤ 65536 → next_at ed log at ≡ next e p → length (entry_line at e) + 4 * at ≤ 4 * p
entry_fits ed log at (clear b) p h i = omega (arith, field at b (ascii " clear ") h, mark_some ed, clear_moves Tolerant ed log at b p i)
entry_fits ed log at (update id ws ns elided b) p h i =
    let u : List ℕ = decimal at ++ ascii " update " in
    let c : List ℕ = decimal (count_of ws) in
    omega (
      arith,
      offset-length at h,
      decimal-length b,
      decimal-length (count_of ws),
      length-append (u ++ decimal b ++ ascii " " ++ c) (ascii "\n"),
      length-append (u ++ decimal b ++ ascii " ") c,
      length-append (u ++ decimal b) (ascii " "),
      length-append u (decimal b),
      length-append (decimal at) (ascii " update "),
      mark_some ed,
      (update_moves Tolerant ed log at id ws ns elided b p i).after,
    )

-- the lines from an entry on
module _ (log : List ℕ) (few : length log ≤ 65536) where
  abbrev its : Edition
  its = edition_at log

  from_fits : (f at : ℕ) → (at ≡ 0 → ⊥) → at ≤ length log → length (lines_in f log at) + 4 * at ≤ 4 * length log + 35
  unfolding lines_in
  from_fits zero at n h = go (next_at its log at) refl
    where
      go : (x : Next) → next_at its log at ≡ x → length (text_of (shown_at log at)) + 4 * at ≤ 4 * length log + 35
      go (next e p) i = let m = moves Tolerant its log at e p i in omega (arith, ap (λ (s : Shown). length (text_of s)) (shown_next log at (next e p) n i), entry_fits its log at e p (omega arith) i)
      go ended i = omega (arith, ap (λ (s : Shown). length (text_of s)) (shown_next log at ended n i), offset-length at (omega arith), length-append (decimal at) (ascii " end\n"))
      go (stopped k) i = omega (arith, ap (λ (s : Shown). length (text_of s)) (shown_next log at (stopped k) n i), field at k (ascii " refused ") (omega arith))
  from_fits (suc f) at n h = go (next_at its log at) refl (from_fits f)
    where
      go : (x : Next) → next_at its log at ≡ x → ((p : ℕ) → (p ≡ 0 → ⊥) → p ≤ length log → length (lines_in f log p) + 4 * p ≤ 4 * length log + 35) → length (and_on (shown_at log at) (lines_in f log)) + 4 * at ≤ 4 * length log + 35
      go (next e p) i r =
          let m = moves Tolerant its log at e p i in
          omega (
            arith,
            ap (λ (s : Shown). length (and_on s (lines_in f log))) (shown_next log at (next e p) n i),
            length-append (entry_line at e) (lines_in f log p),
            entry_fits its log at e p (omega arith) i,
            r p (λ z. omega arith) (omega arith),
          )
      go ended i r = omega (arith, ap (λ (s : Shown). length (and_on s (lines_in f log))) (shown_next log at ended n i), offset-length at (omega arith), length-append (decimal at) (ascii " end\n"))
      go (stopped k) i r = omega (arith, ap (λ (s : Shown). length (and_on s (lines_in f log))) (shown_next log at (stopped k) n i), field at k (ascii " refused ") (omega arith))

pub lines_fit : (log : List ℕ) → length (lines_of log) ≤ 4 * most + 80
lines_fit log = go (dec_le (length log) 65536) (dec_le (length log) 0) (start_of log) refl
  where
    go : Dec (length log ≤ 65536) → Dec (length log ≤ 0) → (a : Answer ℕ) → start_of log ≡ a → length (lines_of log) ≤ 4 * most + 80
    go (no p) d a s = omega (arith, ap length (lines_long log (lt_of_not-le p)), short_field 0 2 (ascii " refused ") (omega arith))
    go (yes p) (yes d) a s = omega (arith, ap length (lines_none log (omega arith)))
    go (yes p) (no d) (given sync) s =
        let first : List ℕ = start_line sync in
        let at : ℕ = start_size (edition_at log) in
        let here = start_long (edition_at log) log sync s in
        omega (
          arith,
          ap length (lines_start log p (λ e. omega arith) ∙ ap (λ (a : Answer ℕ). started_lines a log) s ∙ ap (λ (t : List ℕ). first ++ t) (sym (lines_from (length log) log at (λ e. omega arith) (omega arith)))),
          length-append first (lines_in (length log) log at),
          field 0 sync (ascii " start ") (omega arith),
          from_fits log p (length log) at (λ e. omega arith) (omega (arith, start_few (edition_at log))),
        )
    go (yes p) (no d) (refused k) s =
        omega (arith, ap length (lines_start log p (λ e. omega arith) ∙ ap (λ (a : Answer ℕ). started_lines a log) s), short_field 0 k (ascii " refused ") (omega arith))
