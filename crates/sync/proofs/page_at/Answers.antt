-- Where the pages reach that far it is the j-th of them. Assumes nothing.
use Rattle.std.proofs.Common.{◌≡◌, ◌∙◌, sym, ap, ℕ, ◌+◌, ◌-◌, ◌*◌, take, drop, arith}
use Rattle.sync.proofs.StartLaws.{page_there}
use Rattle.sync.proofs.page_at.Goals as goal

pub returns-then-j-pages : goal.returns-then-j-pages
returns-then-j-pages c =
    let j = c.args.j in
    let pages = c.args.pages.now in
    let k : 4096 * j + 4096 - 4096 * j ≡ 4096 = omega arith in
    ap (λ (n : ℕ). take n (drop (4096 * j) pages)) k ∙ sym (page_there pages j c.if-j-pages.true)
