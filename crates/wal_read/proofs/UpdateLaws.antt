-- What is seen of a clear and of an update after the mark, by what was read there. Assumes nothing.
use mathlib.Core.Path.{◌≡◌, sym, ap, ap₂, ◌∙◌}
use mathlib.Core.Bool.{false}
use mathlib.Core.List.{List}
use Prim.Native.Nat.{ℕ, ◌+◌, ◌-◌, ◌*◌, ◌≤◌, ◌<◌}
use native.Mathlib.Omega.{arith}
use lib.ListN.{length}
use Rattle.answers.specs.Answers.{given, refused}
use Rattle.blocks.specs.Blocks.{le, block}
use Rattle.page_diff.specs.Diff.{count_of, reserved, read_answer, read_words}
use Rattle.wal.specs.Log.{update_body}
use Rattle.wal.specs.Reader.{diff_at, update_of, by_tag}
use Rattle.wal_read.specs.Head.{Seen, a_clear, an_update, a_refusal, head_of}
use Rattle.wal_read.proofs.NextLaws.{by_clear_cut, by_clear, by_diff_cut, by_reserved, by_update_cut, by_update, read_refused, read_given, read_words_lem}

-- what is seen after the mark of a tag
abbrev pub seen : List ℕ → ℕ → ℕ → Seen
seen log p t = head_of (by_tag t log p)

-- a clear that the log cuts, and one that is whole
pub seen_clear_cut : (log : List ℕ) (p t : ℕ) → t ≡ 3 → length log < p + 8 → a_refusal 6 ≡ head_of (by_tag t log p)
seen_clear_cut log p t f h = sym (ap (seen log p) f ∙ ap head_of (by_clear_cut log p h))

pub seen_clear : (log : List ℕ) (p t b : ℕ) → t ≡ 3 → p + 8 ≤ length log → b ≡ le (block 8 log p) → a_clear b (p + 8) ≡ head_of (by_tag t log p)
seen_clear log p t b f h w = ap (λ (k : ℕ). a_clear k (p + 8)) w ∙ sym (ap (seen log p) f ∙ ap head_of (by_clear log p h))

-- an update that the log cuts before its nodes
pub seen_diff_cut : (log : List ℕ) (p t : ℕ) → t ≡ 4 → length log < p + 48 → a_refusal 6 ≡ head_of (by_tag t log p)
seen_diff_cut log p t f h = sym (ap (seen log p) f ∙ ap head_of (by_diff_cut log p h))

-- a diff that is refused
pub seen_refused : (log : List ℕ) (p t k : ℕ) → refused k ≡ read_answer (block 16 log (p + 32)) → t ≡ 4 → p + 48 ≤ length log → a_refusal k ≡ head_of (by_tag t log p)
seen_refused log p t k r f h =
    let told = read_refused (block 16 log (p + 32)) k r in
    ap a_refusal told.1 ∙ sym (ap (seen log p) f ∙ ap head_of (by_reserved log p h told.0))

-- one that is read is of nodes alone
plain : (log : List ℕ) (p : ℕ) → given tt ≡ read_answer (block 16 log (p + 32)) → reserved (diff_at log p) ≡ false
plain log p r = read_given (block 16 log (p + 32)) r

module _ (log : List ℕ) (p t k : ℕ) (ws : List ℕ) (e : k ≡ count_of ws) (v : ws ≡ read_words (block 16 log (p + 32))) (r : given tt ≡ read_answer (block 16 log (p + 32))) (f : t ≡ 4) where
  -- and the count is its own
  counted : k ≡ count_of (diff_at log p)
  counted = e ∙ ap count_of (v ∙ read_words_lem (block 16 log (p + 32)) (plain log p r))

  -- an update that the log cuts in its nodes
  pub seen_cut : p + 48 ≤ length log → length log < p + (64 + 32 * k) → a_refusal 6 ≡ head_of (by_tag t log p)
  seen_cut h s =
      let short : length log < p + update_body (count_of (diff_at log p)) = omega (arith, counted) in
      sym (ap (seen log p) f ∙ ap head_of (by_update_cut log p h (plain log p r) short))

  -- and one that is whole
  pub seen_update : (b : ℕ) → p + (64 + 32 * k) ≤ length log → b ≡ le (block 8 log (p + (64 + 32 * k - 8))) → an_update b k (p + (64 + 32 * k)) ≡ head_of (by_tag t log p)
  unfolding update_of
  seen_update b h w =
      let n : ℕ = count_of (diff_at log p) in
      let there : p + (64 + 32 * k - 8) ≡ p + 56 + 32 * n = omega (arith, counted) in
      let whole : p + update_body n ≤ length log = omega (arith, counted) in
      ap₂ (λ (c m : ℕ). an_update c m (p + update_body m)) (w ∙ ap (λ (q : ℕ). le (block 8 log q)) there) counted
      ∙ sym (ap (seen log p) f ∙ ap head_of (by_update log p (plain log p r) whole))
