-- The two words are those of the sixteen bytes, and the high one reaches 2 ^ 62 exactly where bit 126 or 127 is set. Assumes nothing.
use Rattle.std.proofs.Common.{rules, arith, ◌≡◌, ℕ, ◌<◌, ◌^◌, List, [], ◌∷◌, length, take, drop, true, false, sym, ap, ◌∙◌, subst}
use borrow.Author.Tests.{lt-leb, le-leb}
use lib.Dec.{leb}
use Rattle.blocks.specs.Blocks.{le, block}
use Rattle.blocks.proofs.Laws.{block_at}
use Rattle.page_diff.specs.Diff.{reserved, words_of, read_words}
use Rattle.page_diff.proofs.MarkLaws.{reserved_test}
use Rattle.page_diff.proofs.from_bytes.Goals as goal

-- the words read are those of the bytes
module _ (bs : List ℕ) (lo hi : ℕ) (l : length bs ≡ 16) (el : lo ≡ le (block 8 bs 0)) (eh : hi ≡ le (block 8 bs 8)) (h : hi < 2 ^ 64) where
  low : lo ≡ le (take 8 bs)
  low = el ∙ ap le (block_at 8 bs 0 (omega arith))

  high : hi ≡ le (take 8 (drop 8 bs))
  high = eh ∙ ap le (block_at 8 bs 8 (omega arith))

  test : leb (2 ^ 62) hi ≡ reserved (words_of bs)
  test = ap (leb (2 ^ 62)) high ∙ reserved_test (words_of bs) (subst (λ (n : ℕ). n < 2 ^ 64) high h)

  plain : hi < 2 ^ 62 → reserved (words_of bs) ≡ false
  plain k = sym test ∙ lt-leb _ _ k

  given_lem : hi < 2 ^ 62 → lo ∷ hi ∷ [] ≡ read_words bs
  given_lem k = simp (plain k, low, high)

pub returns-then-hi-lt-RESERVED-clause-answer : goal.returns-then-hi-lt-RESERVED-clause-answer
returns-then-hi-lt-RESERVED-clause-answer c = simp (plain c.args.bytes _ _ (search rules) c.read_u64-lo.ensures c.read_u64-hi.ensures c.read_u64-hi.type_inv c.if-hi-lt-RESERVED.true)

pub returns-then-hi-lt-RESERVED-clause-value : goal.returns-then-hi-lt-RESERVED-clause-value
returns-then-hi-lt-RESERVED-clause-value c = given_lem c.args.bytes _ _ (search rules) c.read_u64-lo.ensures c.read_u64-hi.ensures c.read_u64-hi.type_inv c.if-hi-lt-RESERVED.true

pub returns-clause-answer : goal.returns-clause-answer
returns-clause-answer c =
    let e : reserved (words_of c.args.bytes) ≡ true = sym (test c.args.bytes _ _ (search rules) c.read_u64-lo.ensures c.read_u64-hi.ensures c.read_u64-hi.type_inv) ∙ le-leb _ _ c.if-hi-lt-RESERVED.false in
    simp e
