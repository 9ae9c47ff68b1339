-- The slots take the nodes of the log, and the last 40 bytes are put over them. Assumes nothing.
use Rattle.std.proofs.Common.{arith, ◌≡◌, ◌+◌, List, ◌++◌, ℕ, length, length-append, sym, ap, ap₂, ◌∙◌}
use Rattle.std.proofs.lemmas.Result.{IfOk-at_ok}
use borrow.Rule.Slice.PartMut.{put_mid}
use Rattle.blocks.specs.Blocks.{block, tabulate}
use Rattle.blocks.proofs.Laws.{tabulate-length}
use Rattle.page_diff.specs.Diff.{count_of, read_words}
use Rattle.page_diff.specs.Pack.{unpacked_byte}
use Rattle.page_diff.specs.declared.Diff.{Diff}
use Rattle.wal.specs.Reader.{diff_at, nodes_from}
use Rattle.wal_read.proofs.NextLaws.{read_words_lem}
use Rattle.recover.specs.Places.{page_after}
use Rattle.recover.proofs.Pages.{page_done}
use Rattle.recover.proofs.Parts.{part-put}
use Rattle.recover.proofs.apply_page.Goals as goal

pub returns : goal.returns
returns c =
    let log : List ℕ = c.args.log.now in
    let at : ℕ = c.args.body in
    let k : ℕ = c.args.count in
    let page : List ℕ = c.args.page.now in
    -- the diff that is read is the one that stands in the log
    let e : c.unwrap-d.result.words ≡ diff_at log at =
    IfOk-at_ok (λ (d : Diff). d.words ≡ read_words c.block.result) c.unwrap-d.ensures c.from_bytes.ensures.value
    ∙ ap read_words c.block.ensures ∙ read_words_lem (block 16 log (at + 32)) c.requires.1 in
    let el : List ℕ = c.block-elided.result in
    let id : List ℕ = c.block-id.result in
    let page1 : c.write_slots.new.page ≡ tabulate (unpacked_byte (diff_at log at) (nodes_from log (at + 48) k) page) 4096 =
    c.write_slots.ensures
    ∙ ap (λ (ws : List ℕ). tabulate (unpacked_byte ws (nodes_from log (at + 48) (count_of ws)) page) 4096) e
    ∙ ap (λ (n : ℕ). tabulate (unpacked_byte (diff_at log at) (nodes_from log (at + 48) n) page) 4096) (sym c.requires.2) in
    let long : length (el ++ id) ≡ 40 = omega (arith, length-append el id, c.write_label.ensures.1, c.write_label.ensures.2) in
    ap₂ (λ (l m : List ℕ). put_mid 4056 40 l m) page1 c.write_label.ensures.0
    ∙ part-put 4056 4096 (tabulate (unpacked_byte (diff_at log at) (nodes_from log (at + 48) k) page) 4096) (el ++ id) (omega arith)
    (omega (arith, tabulate-length (unpacked_byte (diff_at log at) (nodes_from log (at + 48) k) page) 4096)) long
    ∙ page_done id (diff_at log at) (nodes_from log (at + 48) k) el page c.write_label.ensures.1 c.write_label.ensures.2
    ∙ ap₂ (λ (x y : List ℕ). page_after x (diff_at log at) (nodes_from log (at + 48) k) y page) c.block-id.ensures c.block-elided.ensures
