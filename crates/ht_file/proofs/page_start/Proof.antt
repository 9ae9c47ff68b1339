-- Few buckets have few pages, so nothing wraps; each answer is the definition's by the tests that led there. Assumes nothing.
use borrow.Author.Rules.{rules}
use borrow.Author.Tests.{lt-leb, le-leb}
use mathlib.Core.Path.{sym, ap, ◌∙◌}
use Prim.Native.Nat.{ℕ, ◌+◌, ◌*◌}
use Rattle.ht_file.proofs.Laws.{start_is}
use Rattle.ht_file.proofs.page_start.Statement.{statement}
use Rattle.ht_file.proofs.page_start.Tie as tie

tag-pages-requires : tie.Need-tag_pages-requires
tag-pages-requires c κs = search rules

add-result : tie.Need-overflow_add-result
add-result c = search rules

mul-result : tie.Need-overflow_mul-result
mul-result c = search rules

returns : tie.Need-returns-then-bucket-n
returns c =
    let a = c.before.before.before.args in
    ap (λ (p : ℕ). 4096 * (p + a.bucket)) c.tag_pages.ensures ∙ sym (start_is a.n a.bucket c.before.before.if-n-le-MAX_BUCKETS.true c.before.if-bucket-n.true)

returns-2 : tie.Need-returns-else-bucket-n
returns-2 c = simp (le-leb _ _ c.before.if-n-le-MAX_BUCKETS.true, lt-leb _ _ c.if-bucket-n.false)

returns-3 : tie.Need-returns-else-n-le-MAX_BUCKETS
returns-3 c = simp (lt-leb _ _ c.if-n-le-MAX_BUCKETS.false)

pub page_start_spec : {M : Type 1} → statement M
page_start_spec =
    tie.close (tie.spec tag-pages-requires add-result mul-result returns returns-2 returns-3)
