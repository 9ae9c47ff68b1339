-- 02, W-208: a reader that wants zeros after end and a tolerant one read the same entries to the same place, and agree wherever zeros follow;
-- where they differ the tolerant one is at end, and the other answers 27. Assumes nothing.
use mathlib.Core.Path.{◌≡◌, refl, sym, ap, ap₂, ◌∙◌}
use mathlib.Core.Logic.{◌⊎◌, inl, inr}
use mathlib.Core.Bool.{Bool, true, false}
use mathlib.Core.List.{List}
use Prim.Native.Nat.{ℕ, zero, suc, ◌+◌, ◌-◌, ◌≤◌}
use native.Mathlib.Omega.{arith}
use lib.ListN.{length, get_or, drop}
use lib.Seq.{get_or-drop}
use Rattle.answers.specs.Answers.{Answer, given, refused}
use Rattle.blocks.specs.Blocks.{all_zero}
use Rattle.blocks.proofs.Zeros.{zeros_at}
use Rattle.wal.specs.Log.{mark_size, start_size}
use Rattle.wal.specs.Reader.{edition_at, Next, next, ended, stopped, next_at, wanted, on_end, next_by, Reading, stop_at, and_then, read_on, read_by, read_in, read_log}
use Rattle.wal.specs.declared.AfterEnd.{AfterEnd}
use Rattle.wal.specs.declared.AfterEnd.TheVariants.{Zeros, Tolerant}
use Rattle.wal.specs.declared.Edition.{Edition}

-- "Tolerant calls with the former rule": what stands at a position, as it did
pub tolerant_next : (ed : Edition) (log : List ℕ) (at : ℕ) → next_by Tolerant ed log at ≡ next_at ed log at
tolerant_next ed log at = refl

-- and the reading of a log, as it stood before there was a rule
pub tolerant_log : (log : List ℕ) → read_log Tolerant log ≡ read_by (next_at (edition_at log) log) (length log) (start_size (edition_at log))
tolerant_log log = refl

-- ---- what follows end
-- a byte that is not zero is not what is wanted, wherever it stands from p on
pub used_unwanted : (log : List ℕ) (p j : ℕ) → p ≤ j → (get_or log j 0 ≡ 0 → ⊥) → wanted Zeros log p ≡ false
used_unwanted log p j h used = go (all_zero (drop p log)) refl
  where
    go : (t : Bool) → all_zero (drop p log) ≡ t → all_zero (drop p log) ≡ false
    go true e = let back : p + (j - p) ≡ j = omega arith in absurd (used (sym (ap (λ (i : ℕ). get_or log i 0) back) ∙ sym (get_or-drop p log (j - p) 0) ∙ zeros_at (drop p log) e (j - p)))
    go false e = e

-- and where zeros are what is found, each byte is one
pub wanted_zero : (log : List ℕ) (p : ℕ) → wanted Zeros log p ≡ true → (j : ℕ) → p ≤ j → get_or log j 0 ≡ 0
wanted_zero log p e j h = let back : p + (j - p) ≡ j = omega arith in sym (ap (λ (i : ℕ). get_or log i 0) back) ∙ sym (get_or-drop p log (j - p) 0) ∙ zeros_at (drop p log) e (j - p)

-- ---- at a position
module _ (rule : AfterEnd) (ed : Edition) (log : List ℕ) (at : ℕ) where
  -- where what is wanted follows, and wherever there is no end
  pub next_agrees : wanted rule log (at + mark_size ed) ≡ true → next_by rule ed log at ≡ next_by Tolerant ed log at
  next_agrees e = ap (λ (t : Bool). on_end t (next_at ed log at)) e

  -- they agree, or the tolerant reader is at end and the other answers 27
  pub next_differs : (next_by rule ed log at ≡ next_by Tolerant ed log at) ⊎ ((next_by Tolerant ed log at ≡ ended) × (next_by rule ed log at ≡ stopped 27))
  next_differs = go (wanted rule log (at + mark_size ed)) (next_at ed log at)
    where
      go : (t : Bool) (x : Next) → (on_end t x ≡ x) ⊎ ((x ≡ ended) × (on_end t x ≡ stopped 27))
      go true x = inl refl
      go false (next e p) = inl refl
      go false ended = inr (refl, refl)
      go false (stopped n) = inl refl

-- "27, a byte after end not zero, from the reader in place of end"
pub next_used : (ed : Edition) (log : List ℕ) (at : ℕ) → next_at ed log at ≡ ended → (j : ℕ) → at + mark_size ed ≤ j → (get_or log j 0 ≡ 0 → ⊥) → next_by Zeros ed log at ≡ stopped 27
next_used ed log at here j h used = ap₂ on_end (used_unwanted log (at + mark_size ed) j h used) here

-- ---- the reading of a log
-- by what follows the place where the tolerant reader stops
abbrev pub stop_by : Bool → Answer (Unit {0}) → Answer (Unit {0})
stop_by true a = a
stop_by false (given u) = refused 27
stop_by false (refused n) = refused n

abbrev pub ended_by : AfterEnd → Edition → List ℕ → Reading → Reading
ended_by rule ed log r = record { entries = r.entries; at = r.at; stop = stop_by (wanted rule log (r.at + mark_size ed)) r.stop }

refused_stays : (t : Bool) (n : ℕ) → refused n ≡ stop_by t (refused n)
refused_stays true n = refl
refused_stays false n = refl

module _ (rule : AfterEnd) (ed : Edition) (log : List ℕ) where
  -- one record more, where the rest reads so
  more_ended : (at : ℕ) (f g : ℕ → Reading) → ((p : ℕ) → f p ≡ ended_by rule ed log (g p)) → (t : Bool) → wanted rule log (at + mark_size ed) ≡ t → (x : Next)
      → read_on (on_end t x) at f ≡ ended_by rule ed log (read_on x at g)
  more_ended at f g same true e (next x p) = ap (and_then x) (same p)
  more_ended at f g same false e (next x p) = ap (and_then x) (same p)
  more_ended at f g same true e ended = sym (ap (λ (t : Bool). stop_at at (stop_by t (given tt))) e)
  more_ended at f g same false e ended = sym (ap (λ (t : Bool). stop_at at (stop_by t (given tt))) e)
  more_ended at f g same true e (stopped n) = ap (stop_at at) (refused_stays (wanted rule log (at + mark_size ed)) n)
  more_ended at f g same false e (stopped n) = ap (stop_at at) (refused_stays (wanted rule log (at + mark_size ed)) n)

  -- one law: the entries and the place are the tolerant reader's, and so is the stop but for 27
  pub read_ended : (f : ℕ) (at : ℕ) → read_in rule ed f log at ≡ ended_by rule ed log (read_in Tolerant ed f log at)
  unfolding read_by
  read_ended zero at =
      more_ended at (λ p. stop_at p (refused 6)) (λ p. stop_at p (refused 6)) (λ p. ap (stop_at p) (refused_stays (wanted rule log (p + mark_size ed)) 6)) (wanted rule log (at + mark_size ed)) refl (next_at ed log at)
  read_ended (suc f) at =
      more_ended at (λ p. read_in rule ed f log p) (λ p. read_in Tolerant ed f log p) (λ p. read_ended f p) (wanted rule log (at + mark_size ed)) refl (next_at ed log at)

-- ---- a whole log
module _ (rule : AfterEnd) (log : List ℕ) where
  abbrev tolerant : Reading
  tolerant = read_log Tolerant log

  log_ended : read_log rule log ≡ ended_by rule (edition_at log) log (read_log Tolerant log)
  log_ended = read_ended rule (edition_at log) log (length log) (start_size (edition_at log))

  -- the entries do not depend on what follows end
  pub same_entries : (read_log rule log).entries ≡ (read_log Tolerant log).entries
  same_entries = ap (λ (r : Reading). r.entries) log_ended

  -- "default and tolerant agree on every log whose bytes after end are zero"
  pub log_agrees : wanted rule log ((read_log Tolerant log).at + mark_size (edition_at log)) ≡ true → read_log rule log ≡ read_log Tolerant log
  log_agrees e = log_ended ∙ ap (λ (t : Bool). record { entries = tolerant.entries; at = tolerant.at; stop = stop_by t tolerant.stop }) e

  -- "where they differ the default's answer is 27"
  pub log_differs : (read_log rule log ≡ read_log Tolerant log) ⊎ (((read_log Tolerant log).stop ≡ given tt) × ((read_log rule log).stop ≡ refused 27))
  log_differs = go (wanted rule log (tolerant.at + mark_size (edition_at log))) refl tolerant.stop refl
    where
      go : (t : Bool) → wanted rule log (tolerant.at + mark_size (edition_at log)) ≡ t → (a : Answer (Unit {0})) → tolerant.stop ≡ a
          → (read_log rule log ≡ read_log Tolerant log) ⊎ (((read_log Tolerant log).stop ≡ given tt) × ((read_log rule log).stop ≡ refused 27))
      go true e a h = inl (log_agrees e)
      go false e (given tt) h = inr (h, ap (λ (r : Reading). r.stop) log_ended ∙ ap₂ stop_by e h)
      go false e (refused n) h =
          inl (log_ended ∙ ap (λ (a : Answer (Unit {0})). record { entries = tolerant.entries; at = tolerant.at; stop = a }) (ap₂ stop_by e h ∙ sym h))

-- a log that is read to its end with zeros wanted has nothing but zeros after the mark of end
pub ends_in_zeros : (log : List ℕ) → (read_log Zeros log).stop ≡ given tt → (j : ℕ) → (read_log Zeros log).at + mark_size (edition_at log) ≤ j → get_or log j 0 ≡ 0
ends_in_zeros log ok j h = go (wanted Zeros log ((tolerant Zeros log).at + mark_size (edition_at log))) refl (tolerant Zeros log).stop refl
  where
    stop_is : (read_log Zeros log).stop ≡ stop_by (wanted Zeros log ((tolerant Zeros log).at + mark_size (edition_at log))) (tolerant Zeros log).stop
    stop_is = ap (λ (r : Reading). r.stop) (log_ended Zeros log)

    same_place : (read_log Zeros log).at ≡ (tolerant Zeros log).at
    same_place = ap (λ (r : Reading). r.at) (log_ended Zeros log)

    go : (t : Bool) → wanted Zeros log ((tolerant Zeros log).at + mark_size (edition_at log)) ≡ t → (a : Answer (Unit {0})) → (tolerant Zeros log).stop ≡ a → get_or log j 0 ≡ 0
    go true e a q = wanted_zero log ((tolerant Zeros log).at + mark_size (edition_at log)) e j (omega (arith, same_place))
    go false e (given tt) q = let z : refused 27 ≡ given tt = sym (stop_is ∙ ap₂ stop_by e q) ∙ ok in let y : ◌≡◌ {A = ℕ} 0 1 = cc in absurd (omega arith)
    go false e (refused n) q = let z : refused n ≡ given tt = sym (stop_is ∙ ap₂ stop_by e q) ∙ ok in let y : ◌≡◌ {A = ℕ} 0 1 = cc in absurd (omega arith)

-- and one that the tolerant reader reads to its end, with a byte after it that is not zero, stops with 27
pub used_stops : (log : List ℕ) → (read_log Tolerant log).stop ≡ given tt → (j : ℕ) → (read_log Tolerant log).at + mark_size (edition_at log) ≤ j → (get_or log j 0 ≡ 0 → ⊥) → (read_log Zeros log).stop ≡ refused 27
used_stops log ok j h used =
    ap (λ (r : Reading). r.stop) (log_ended Zeros log) ∙ ap₂ stop_by (used_unwanted log ((read_log Tolerant log).at + mark_size (edition_at log)) j h used) ok
