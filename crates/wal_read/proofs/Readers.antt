-- What the promises of a reader's calls add up to: one answer for one reader; a reader set on a log gives that log's start and then its
-- entries, or the start's refusal; and after the end, or a refusal, the reader is as it was, so it answers the same again. 02, W-208: a
-- reader and its tolerant one agree, or the tolerant one is at end and the other answers 27. Assumes nothing.
use mathlib.Core.Path.{◌≡◌, refl, sym, ap, ap₂, ◌∙◌, subst}
use mathlib.Core.Logic.{◌⊎◌, inl, inr}
use mathlib.Core.Bool.{true}
use mathlib.Core.List.{List, ◌∷◌, map}
use Prim.Native.Nat.{ℕ, zero, suc, ◌+◌, ◌%◌}
use native.Mathlib.Omega.{arith}
use lib.ListN.{length, get_or, replicate}
use denote.Ref.{Bor}
use Rattle.std.specs.Prelude.{Result, Err}
use Rattle.answers.specs.Answers.{Answer, given, refused, answer_of}
use Rattle.answers.specs.Refusals.{number_of}
use Rattle.answers.specs.declared.Refusal.{Refusal}
use Rattle.answers.specs.declared.Refusal.TheVariants.{AfterEndUsed}
use Rattle.answers.proofs.Laws.{answer_one}
use Rattle.wal.specs.Log.{clear, update, mark_size}
use Rattle.wal.specs.Reader.{Next, next, ended, stopped, edition_at, start_in, start_of, wanted}
use Rattle.wal.specs.declared.AfterEnd.{AfterEnd}
use Rattle.wal.specs.declared.AfterEnd.TheVariants.{Zeros, Tolerant}
use Rattle.wal.specs.declared.Edition.TheVariants.{One}
use Rattle.wal.proofs.EditionOne.{old_reader_refuses}
use Rattle.wal.proofs.Endings.{next_agrees, next_differs}
use Rattle.wal_read.specs.Entry.{Kind, ends, refuses, what_of, what_said, next_of, Taken}
use Rattle.wal_read.specs.Set.{first_at, gives_by, gives_at, SetOn, as_tolerant, Gives, Reads, Over, at_end, at_refusal, Calls, none, call}
use Rattle.wal_read.specs.declared.What.{What}
use Rattle.wal_read.specs.declared.WalEntry.{WalEntry}
use Rattle.wal_read.specs.declared.WalBlobReader.{WalBlobReader}
use Rattle.wal_read.proofs.Answered.{what_one, entry_one}

-- a reader is its fields
fields_one : (a b : WalBlobReader) → a.log ≡ b.log → a.at ≡ b.at → a.start ≡ b.start → a.rule ≡ b.rule → a ≡ b
fields_one a b l p s u = λ j. record { log = l j; at = p j; start = s j; rule = u j }

-- ---- two answers that a promise allows for one input are equal
pub set_one : (rule : AfterEnd) (log : Bor (List ℕ)) (a b : WalBlobReader) → SetOn rule log a → SetOn rule log b → a ≡ b
set_one rule log a b s t =
    fields_one a b (s.log_is ∙ sym t.log_is) (s.at_is ∙ sym t.at_is) (answer_one a.start b.start (s.start_is ∙ sym t.start_is)) (s.rule_is ∙ sym t.rule_is)

pub gives_one : (r : WalBlobReader) (d e : WalEntry) → Gives r d → Gives r e → d ≡ e
gives_one r d e s t = entry_one (gives_at r.rule (answer_of r.start) r.log.now r.at) r.at d e s t

pub reads_one : (r : WalBlobReader) (d e : WalEntry) (a b : WalBlobReader) → Reads r d a → Reads r e b → (d ≡ e) × (a ≡ b)
reads_one r d e a b s t =
    let same = gives_one r d e s.entry_is t.entry_is in
    (same, fields_one a b (s.log_stays ∙ sym t.log_stays) (s.at_moves ∙ ap (λ (x : WalEntry). x.next) same ∙ sym t.at_moves) (s.start_stays ∙ sym t.start_stays) (s.rule_stays ∙ sym t.rule_stays))

-- ---- a reader that was set on a log
module _ (rule : AfterEnd) (log : Bor (List ℕ)) (r : WalBlobReader) (set : SetOn rule log r) where
  -- "gives the sync number", or why there is none
  pub set_seqn : (n : Result ℕ Refusal) → n ≡ r.start → answer_of n ≡ start_of log.now
  set_seqn n e = ap answer_of e ∙ set.start_is

  -- it gives what the log has for it, by the start
  pub set_gives : (e : WalEntry) → Gives r e → Taken (gives_at rule (start_of log.now) log.now (first_at log.now)) (first_at log.now) e
  set_gives e g =
      subst (λ (u : AfterEnd). Taken (gives_at u (start_of log.now) log.now (first_at log.now)) (first_at log.now) e) set.rule_is
      (subst (λ (a : Answer ℕ). Taken (gives_at r.rule a log.now (first_at log.now)) (first_at log.now) e) set.start_is
      (subst (λ (l : Bor (List ℕ)). Taken (gives_at r.rule (answer_of r.start) l.now (first_at log.now)) (first_at log.now) e) set.log_is
      (subst (λ (p : ℕ). Taken (gives_at r.rule (answer_of r.start) r.log.now p) p e) set.at_is g)))

  -- made tolerant it is a tolerant reader set on that log, of which all of this holds
  pub tolerant_set : SetOn Tolerant log (as_tolerant r)
  tolerant_set = record { log_is = set.log_is; at_is = set.at_is; start_is = set.start_is; rule_is = refl }

-- "Tolerant calls with the former rule remain": a reader set on a log, and then made tolerant
pub tolerant_gives : (log : Bor (List ℕ)) (r : WalBlobReader) → SetOn Zeros log r → (e : WalEntry) → Gives (as_tolerant r) e → Taken (gives_at Tolerant (start_of log.now) log.now (first_at log.now)) (first_at log.now) e
tolerant_gives log r set e g = set_gives Tolerant log (as_tolerant r) (tolerant_set Zeros log r set) e g

-- ---- "After end it answers end again", and after a refusal that refusal
-- what ends the reading does not move on
stays : (n : Next) (at p : ℕ) (k : Kind) → k ≡ what_of n → p ≡ next_of n at → (k ≡ ends → p ≡ at) × ((m : ℕ) → k ≡ refuses m → p ≡ at)
stays (next (clear b) q) at p k e f = (λ h. let z : ◌≡◌ {A = ℕ} 0 1 = cc in absurd (omega arith), λ m h. let z : ◌≡◌ {A = ℕ} 0 1 = cc in absurd (omega arith))
stays (next (update id ws ns elided b) q) at p k e f = (λ h. let z : ◌≡◌ {A = ℕ} 0 1 = cc in absurd (omega arith), λ m h. let z : ◌≡◌ {A = ℕ} 0 1 = cc in absurd (omega arith))
stays ended at p k e f = (λ h. f, λ m h. f)
stays (stopped n) at p k e f = (λ h. f, λ m h. f)

module _ (r : WalBlobReader) (e : WalEntry) (after : WalBlobReader) (read : Reads r e after) (over : Over e.what) where
  -- the reader is as it was
  pub over_stays : after ≡ r
  over_stays = fields_one after r read.log_stays (read.at_moves ∙ go e.what over refl) read.start_stays read.rule_stays
    where
      here : Taken (gives_at r.rule (answer_of r.start) r.log.now r.at) r.at e
      here = read.entry_is

      kept : (what_said e.what ≡ ends → e.next ≡ r.at) × ((m : ℕ) → what_said e.what ≡ refuses m → e.next ≡ r.at)
      kept = stays (gives_at r.rule (answer_of r.start) r.log.now r.at) r.at e.next (what_said e.what) here.what_is here.next_is

      go : (w : Result What Refusal) → Over w → e.what ≡ w → e.next ≡ r.at
      go w at_end h = kept.0 (ap what_said h)
      go w (at_refusal why) h = kept.1 (number_of why) (ap what_said h)

  -- so the next call answers the same, and leaves it so
  pub over_again : (d : WalEntry) (later : WalBlobReader) → Reads after d later → (d ≡ e) × (later ≡ after)
  over_again d later again = reads_one r d e later after (subst (λ (s : WalBlobReader). Reads s d later) over_stays again) read

-- and so does every call from then on
pub over_always : (r : WalBlobReader) (e : WalEntry) (after : WalBlobReader) → Reads r e after → Over e.what → (es : List WalEntry) (last : WalBlobReader) → Calls after es last → (es ≡ replicate (length es) e) × (last ≡ r)
over_always r e after read over es last none = (refl, over_stays r e after read over)
over_always r e after read over es last (call {after = later} {e = d} {es = ds} again rest) =
    let same = over_again r e after read over d later again in
    let all = over_always r e later (subst (λ (s : WalBlobReader). Reads r e s) (sym same.1) read) over ds last rest in
    (ap₂ (λ (x : WalEntry) (xs : List WalEntry). x ∷ xs) same.0 all.0, all.1)

-- a reader set on a log whose start is refused gives that refusal, and stays
pub set_refuses : (rule : AfterEnd) (log : Bor (List ℕ)) (r : WalBlobReader) → SetOn rule log r → (n : ℕ) → start_of log.now ≡ refused n → (e : WalEntry) (after : WalBlobReader) → Reads r e after → (what_said e.what ≡ refuses n) × (after ≡ r)
set_refuses rule log r set n h e after read =
    let here : Taken (stopped n) r.at e = subst (λ (a : Answer ℕ). Taken (gives_at r.rule a r.log.now r.at) r.at e) (set.start_is ∙ h) read.entry_is in
    (here.what_is, fields_one after r read.log_stays (read.at_moves ∙ here.next_is) read.start_stays read.rule_stays)

-- two calls one after the other on a reader set on a log: what the second gives
pub second_gives : (rule : AfterEnd) (log : Bor (List ℕ)) (r after last : WalBlobReader) (d e : WalEntry) → SetOn rule log r → Reads r d after → Reads after e last
    → let n : Next = gives_at rule (start_of log.now) log.now (first_at log.now) in Taken (gives_at rule (start_of log.now) log.now (next_of n (first_at log.now))) (next_of n (first_at log.now)) e
second_gives rule log r after last d e set first second =
    subst (λ (p : ℕ). Taken (gives_at rule (start_of log.now) log.now p) p e) (first.at_moves ∙ (set_gives rule log r set d first.entry_is).next_is)
    (subst (λ (u : AfterEnd). Taken (gives_at u (start_of log.now) log.now after.at) after.at e) (first.rule_stays ∙ set.rule_is)
    (subst (λ (a : Answer ℕ). Taken (gives_at after.rule a log.now after.at) after.at e) (ap answer_of first.start_stays ∙ set.start_is)
    (subst (λ (l : Bor (List ℕ)). Taken (gives_at after.rule (answer_of after.start) l.now after.at) after.at e) (first.log_stays ∙ set.log_is) second.entry_is)))

-- "An edition one reader meets 0xB2 and answers 7, never entries": so an old program refuses a new log, wherever it stands
pub old_reader_gives : (rule : AfterEnd) (log : List ℕ) (at : ℕ) → get_or log 0 0 ≡ 0xB2 → length log % 4096 ≡ 0 → gives_by rule One (start_in One log) log at ≡ stopped 7
old_reader_gives rule log at e pages = ap (λ (a : Answer ℕ). gives_by rule One a log at) (old_reader_refuses log e pages)

-- ---- 02, W-208: "27, a byte after end not zero, from the reader in place of end"
-- the reader stands where it was, and answers 27 at every call from then on
pub again_27 : (r : WalBlobReader) (e : WalEntry) (after : WalBlobReader) → Reads r e after → what_said e.what ≡ refuses 27
    → (after ≡ r) × ((es : List WalEntry) (last : WalBlobReader) → Calls after es last → (map (λ d. what_said d.what) es ≡ replicate (length es) (refuses 27)) × (last ≡ r))
again_27 r e after read h = (over_stays r e after read over, λ es last calls. let all = over_always r e after read over es last calls in (ap (map (λ d. what_said d.what)) all.0 ∙ each (length es), all.1))
  where
    over : Over e.what
    over = subst Over (sym (what_one e.what (Err AfterEndUsed) h)) (at_refusal AfterEndUsed)

    each : (n : ℕ) → map (λ d. what_said d.what) (replicate n e) ≡ replicate n (refuses 27)
    each zero = refl
    each (suc n) = ap₂ (λ (k : Kind) (ks : List Kind). k ∷ ks) h (each n)

-- where what is wanted follows end, a reader by its start gives what a tolerant one gives
gives_agrees : (rule : AfterEnd) (a : Answer ℕ) (log : List ℕ) (at : ℕ) → wanted rule log (at + mark_size (edition_at log)) ≡ true → gives_at rule a log at ≡ gives_at Tolerant a log at
gives_agrees rule (given sync) log at e = next_agrees rule (edition_at log) log at e
gives_agrees rule (refused n) log at e = refl

gives_differs : (rule : AfterEnd) (a : Answer ℕ) (log : List ℕ) (at : ℕ) → (gives_at rule a log at ≡ gives_at Tolerant a log at) ⊎ ((gives_at Tolerant a log at ≡ ended) × (gives_at rule a log at ≡ stopped 27))
gives_differs rule (given sync) log at = next_differs rule (edition_at log) log at
gives_differs rule (refused n) log at = inl refl

-- a reader, what it gives, and what its tolerant one gives
module _ (r : WalBlobReader) (d e : WalEntry) (gives : Gives r d) (tolerates : Gives (as_tolerant r) e) where
  abbrev start : Answer ℕ
  start = answer_of r.start

  same : gives_at r.rule start r.log.now r.at ≡ gives_at Tolerant start r.log.now r.at → d ≡ e
  same h = entry_one (gives_at Tolerant start r.log.now r.at) r.at d e (subst (λ (n : Next). Taken n r.at d) h gives) tolerates

  -- where zeros follow they give the same entry
  pub zeros_agree : wanted Zeros r.log.now (r.at + mark_size (edition_at r.log.now)) ≡ true → d ≡ e
  zeros_agree z = same (gives_agrees r.rule start r.log.now r.at (follows r.rule))
    where
      follows : (rule : AfterEnd) → wanted rule r.log.now (r.at + mark_size (edition_at r.log.now)) ≡ true
      follows Zeros = z
      follows Tolerant = refl

  -- where they differ the tolerant one is at end, and the other refuses with 27 and stays
  pub differs_27 : (d ≡ e) ⊎ ((what_said e.what ≡ ends) × (what_said d.what ≡ refuses 27) × (d.next ≡ r.at))
  differs_27 = go (gives_differs r.rule start r.log.now r.at)
    where
      go : (gives_at r.rule start r.log.now r.at ≡ gives_at Tolerant start r.log.now r.at) ⊎ ((gives_at Tolerant start r.log.now r.at ≡ ended) × (gives_at r.rule start r.log.now r.at ≡ stopped 27))
          → (d ≡ e) ⊎ ((what_said e.what ≡ ends) × (what_said d.what ≡ refuses 27) × (d.next ≡ r.at))
      go (inl h) = inl (same h)
      go (inr h) =
          let here : Taken (stopped 27) r.at d = subst (λ (n : Next). Taken n r.at d) h.1 gives in
          inr ((subst (λ (n : Next). Taken n r.at e) h.0 tolerates).what_is, here.what_is, here.next_is)
