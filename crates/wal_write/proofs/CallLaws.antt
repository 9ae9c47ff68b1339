-- What each call answers, test by test, and what a refused and an accepted call leave. Assumes nothing.
use mathlib.Core.Path.{◌≡◌, refl, sym, ap, ap₂, ◌∙◌}
use mathlib.Core.Bool.{Bool, true, false, cond}
use mathlib.Core.List.{List}
use Prim.Native.Nat.{ℕ, ◌+◌, ◌≤◌, ◌<◌}
use native.Mathlib.Omega.{arith}
use lib.Dec.{leb, eqb}
use lib.ListN.{length}
use borrow.Author.Tests.{le-leb, lt-leb}
use Rattle.answers.specs.Answers.{Answer, given, refused}
use Rattle.blocks.specs.Blocks.{put}
use Rattle.page_diff.specs.Diff.{count_of, reserved}
use Rattle.wal.specs.Log.{mark_size, clear_size, update_size, finished_length}
use Rattle.wal.specs.Writer.{open_at, capacity, position, edition_of, if_open, if_room, log_by, writer_by, begin_answer, clear_answer, update_answer, finish_answer, record_log, record_writer}
use Rattle.wal.specs.declared.Edition.{Edition}
use Rattle.wal.specs.declared.Writer.{Writer}
use Rattle.wal.specs.declared.Writer.TheVariants.{Fresh, Open, Finished}
use Rattle.wal_write.specs.Calls.{page_update_answer}

-- ---- begin
pub begin_short : (log : List ℕ) → length log < 4096 → begin_answer log ≡ refused 13
unfolding begin_answer
begin_short log h = ap (λ (t : Bool). cond t (given tt) (refused 13)) (lt-leb 4096 (capacity log) (omega arith))

pub begin_given : (log : List ℕ) → 4096 ≤ length log → begin_answer log ≡ given tt
unfolding begin_answer
begin_given log h = ap (λ (t : Bool). cond t (given tt) (refused 13)) (le-leb 4096 (capacity log) (omega arith))

-- ---- the other calls: a writer that is open, what is lent in order (fit, and no reserved bit), room for a record whose size goes by the
-- edition. A call that is lent nothing tests neither
module _ {A : Type 0} where
  abbrev pub tested : List ℕ → Writer → Bool → Bool → (Edition → ℕ) → Answer A → Answer A
  tested log w fit bad size a = if_open w (cond fit (cond bad (refused 4) (if_room log w (size (edition_of w)) a)) (refused 2))

-- what a `let .. else` tells in its else
abbrev pub NotOpen : Writer → Type 0
NotOpen w = (at : ℕ) (ed : Edition) → w ≡ open_at ed at → ⊥

module _ {A : Type 0} (log : List ℕ) (w : Writer) (fit bad : Bool) (size : Edition → ℕ) (a : Answer A) where
  pub not_open : NotOpen w → tested log w fit bad size a ≡ refused 12
  not_open o = go w o
    where
      go : (v : Writer) → NotOpen v → tested log v fit bad size a ≡ refused 12
      go Fresh o = refl
      go (Open p ed) o = absurd (o p ed refl)
      go (Finished n) o = refl

  module _ (ed : Edition) (at : ℕ) (o : w ≡ open_at ed at) where
    opened : tested log w fit bad size a ≡ cond fit (cond bad (refused 4) (if_room log (open_at ed at) (size ed) a)) (refused 2)
    opened = ap (λ (v : Writer). tested log v fit bad size a) o

    pub unfit : fit ≡ false → tested log w fit bad size a ≡ refused 2
    unfit f = opened ∙ ap (λ (t : Bool). cond t (cond bad (refused 4) (if_room log (open_at ed at) (size ed) a)) (refused 2)) f

    pub reserved_bit : fit ≡ true → bad ≡ true → tested log w fit bad size a ≡ refused 4
    reserved_bit f b = opened ∙ ap₂ (λ (t r : Bool). cond t (cond r (refused 4) (if_room log (open_at ed at) (size ed) a)) (refused 2)) f b

    by_room : fit ≡ true → bad ≡ false → tested log w fit bad size a ≡ if_room log (open_at ed at) (size ed) a
    by_room f b = opened ∙ ap₂ (λ (t r : Bool). cond t (cond r (refused 4) (if_room log (open_at ed at) (size ed) a)) (refused 2)) f b

    pub no_room : fit ≡ true → bad ≡ false → leb (at + size ed + mark_size ed) (capacity log) ≡ false → tested log w fit bad size a ≡ refused 13
    no_room f b h = by_room f b ∙ ap (λ (t : Bool). cond t a (refused 13)) h

    pub taken : fit ≡ true → bad ≡ false → leb (at + size ed + mark_size ed) (capacity log) ≡ true → tested log w fit bad size a ≡ a
    taken f b h = by_room f b ∙ ap (λ (t : Bool). cond t a (refused 13)) h

-- which tests each call makes
pub clear_tests : (log : List ℕ) (w : Writer) → clear_answer log w ≡ tested log w true false clear_size (given tt)
unfolding clear_answer
clear_tests log w = refl

pub update_tests : (log : List ℕ) (w : Writer) (ws : List ℕ) (held : ℕ) → update_answer log w ws held ≡ tested log w (eqb held (count_of ws)) (reserved ws) (λ ed. update_size ed held) (given tt)
unfolding update_answer
update_tests log w ws held = refl

pub page_tests : (log : List ℕ) (w : Writer) (ws page : List ℕ) → page_update_answer log w ws page ≡ tested log w (eqb (length page) 4096) (reserved ws) (λ ed. update_size ed (count_of ws)) (given tt)
unfolding page_update_answer
page_tests log w ws page = refl

pub finish_tests : (log : List ℕ) (w : Writer) → finish_answer log w ≡ tested log w true false (λ ed. 0) (given (finished_length (edition_of w) (position w)))
unfolding finish_answer
finish_tests log w = refl

-- ---- what a call leaves: by its answer a, the state w before it and v after it, the bytes that it writes at pos
module _ {A : Type 0} (a : Answer A) (w v : Writer) (log : List ℕ) (pos : ℕ) (bytes : List ℕ) where
  -- "A refused writer call keeps the state", and every byte
  pub refused_leaves : (n : ℕ) (said : Answer A) (state : Writer) → a ≡ refused n → said ≡ refused n → state ≡ w → (said ≡ a) × ((state ≡ writer_by a w v) × (log ≡ log_by a log pos bytes))
  refused_leaves n said state e k s = (
    k ∙ sym e,
    (
      s ∙ sym (ap (λ (x : Answer A). writer_by x w v) e),
      sym (ap (λ (x : Answer A). log_by x log pos bytes) e),
    ),
  )

  pub given_leaves : (x : A) (said : Answer A) (state : Writer) (out : List ℕ) → a ≡ given x → said ≡ given x → state ≡ v → out ≡ put log pos bytes → (said ≡ a) × ((state ≡ writer_by a w v) × (out ≡ log_by a log pos bytes))
  given_leaves x said state out e k s p = (
    k ∙ sym e,
    (
      s ∙ sym (ap (λ (y : Answer A). writer_by y w v) e),
      p ∙ sym (ap (λ (y : Answer A). log_by y log pos bytes) e),
    ),
  )

-- the same of a record whose bytes and size go by the edition
module _ (a : Answer (Unit {0})) (log : List ℕ) (w : Writer) (size : Edition → ℕ) (bytes : Edition → List ℕ) where
  pub record_refused : (n : ℕ) (said : Answer (Unit {0})) (state : Writer) → a ≡ refused n → said ≡ refused n → state ≡ w
      → (said ≡ a) × ((state ≡ record_writer a w (size (edition_of w))) × (log ≡ record_log a log w (bytes (edition_of w))))
  record_refused n said state e k s = refused_leaves a w (open_at (edition_of w) (position w + size (edition_of w))) log (position w) (bytes (edition_of w)) n said state e k s

  pub record_given : (ed : Edition) (at : ℕ) (state : Writer) (out : List ℕ) → w ≡ open_at ed at → a ≡ given tt → state ≡ open_at ed (at + size ed) → out ≡ put log at (bytes ed)
      → (given tt ≡ a) × ((state ≡ record_writer a w (size (edition_of w))) × (out ≡ record_log a log w (bytes (edition_of w))))
  record_given ed at state out o e s p =
      given_leaves a w (open_at (edition_of w) (position w + size (edition_of w))) log (position w) (bytes (edition_of w)) tt (given tt) state out e refl
      (s ∙ sym (ap (λ (v : Writer). open_at (edition_of v) (position v + size (edition_of v))) o)) (p ∙ sym (ap (λ (v : Writer). put log (position v) (bytes (edition_of v))) o))
