-- One byte more of the page is put each turn. Assumes nothing.
use Rattle.std.proofs.Common.{add-one, ◌≡◌, sym, ap, ◌∙◌, arith, List, ℕ, ◌+◌, length, get_or, set}
use lib.Seq.{paste, paste-zero, paste-suc}
use Rattle.blocks.specs.Blocks.{block}
use Rattle.blocks.proofs.Laws.{block-length, block-get_or, put_paste}
use Rattle.rehash.proofs.copy_page.Goals as goal

pub loop-i-init : goal.loop-i-init
loop-i-init c = paste-zero c.args.image.now c.args.at (block 4096 c.args.source.now c.args.from)

pub loop-i-preserved : goal.loop-i-preserved
loop-i-preserved c =
    let a = c.args in
    let i = c.loop-i.i in
    let page : List ℕ = block 4096 a.source.now a.from in
    let long : length page ≡ 4096 = block-length 4096 a.source.now a.from in
    let byte : get_or page i 0 ≡ get_or a.source.now (a.from + i) 0 = block-get_or 4096 a.source.now a.from i (omega arith) (omega arith) in
    let put : set (paste a.image.now a.at page i) (a.at + i) (get_or page i 0) ≡ paste a.image.now a.at page (i + 1) =
    paste-suc a.image.now a.at page i 0 (omega arith) (omega arith) ∙ ap (paste a.image.now a.at page) (sym (add-one i)) in
    grind (arith, byte, put, c.loop-i.invariant)

pub returns : goal.returns
returns c =
    let a = c.args in
    let page : List ℕ = block 4096 a.source.now a.from in
    let long : length page ≡ 4096 = block-length 4096 a.source.now a.from in
    c.loop-i.invariant ∙ ap (paste a.image.now a.at page) (omega arith) ∙ sym (put_paste a.image.now a.at page (omega arith))
