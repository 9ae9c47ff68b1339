-- One bucket more does not have the label, or it is found. Assumes nothing.
use Rattle.std.proofs.Common.{◌≡◌, sym, ap, ap₂, ◌∙◌, arith, Bool, true, false, ◌&&◌, ◌||◌, List, ℕ, ◌+◌, ◌≤◌, ◌<◌, length, take, drop}
use Rattle.blocks.specs.Blocks.{block, same_bytes}
use Rattle.blocks.proofs.Laws.{block_at}
use Rattle.blocks.proofs.Same.{same_equal}
use Rattle.ht_file.specs.Places.{image_fits, start_in}
use Rattle.ht_file.proofs.Laws.{image_fits_facts, start_is}
use Rattle.probe.specs.Path.{page_end}
use Rattle.label_search.proofs.Labels.{label_within, end_read, labelled_none, labelled_next, labelled_by}
use Rattle.label_search.proofs.Table.search_label.Goals.{then-is_full+else-ends_in, else-is_full}
use Rattle.label_search.proofs.Table.search_label.Goals as goal

module _ (img : List ℕ) (n b : ℕ) (fits : image_fits n (length img) ≡ true) (less : b < n) (x : ℕ) (placed : x ≡ start_in n b) (label : List ℕ) (read : label ≡ block 32 img (x + 4064)) where
  label_is : label ≡ page_end img n b
  label_is =
      let f = image_fits_facts n (length img) fits in
      let place : x + 4064 + 32 ≤ length img = omega (arith, placed ∙ start_is n b f.1 (omega (arith, less)), label_within n b (length img) f.2 less) in
      read ∙ block_at 32 img (x + 4064) place ∙ end_read img n b x f.1 (omega (arith, less)) placed

  -- what was compared
  compared : (j y : ℕ) (r t : Bool) → j < b → y ≡ start_in n j → r ≡ same_bytes (take 32 (drop (y + 4064) img)) label → r ≡ t → same_bytes (page_end img n j) (page_end img n b) ≡ t
  compared j y r t l e q d =
      ap₂ same_bytes (sym (end_read img n j y (image_fits_facts n (length img) fits).1 (omega (arith, l, less)) e)) (sym label_is) ∙ sym q ∙ d

pub loop-j-init : goal.loop-j-init
loop-j-init c = let a = c.args in labelled_none a.self.now.image.now a.self.now.n (page_end a.self.now.image.now a.self.now.n a.b)

pub returns-then-ends_in : goal.returns-then-ends_in
returns-then-ends_in c =
    let a = c.args in
    let j = c.loop-j.j in
    let l = page_end a.self.now.image.now a.self.now.n a.b in
    let s = compared a.self.now.image.now a.self.now.n a.b c.args.self.now.fits c.requires c.page_start.result c.page_start.ensures c.block-label.result c.block-label.ensures
    j c.page_start-then-is_full.result c.ends_in.result true c.loop-j-test.true c.page_start-then-is_full.ensures c.ends_in.ensures c.if-ends_in.true in
    sym (labelled_by a.self.now.image.now a.self.now.n l a.b j c.loop-j-test.true (sym c.if-is_full.ensures) (same_equal (page_end a.self.now.image.now a.self.now.n j) l s))

pub loop-j-preserved : goal.loop-j-preserved
loop-j-preserved c =
    let a = c.args in
    let j = c.loop-j.j in
    let l = page_end a.self.now.image.now a.self.now.n a.b in
    let other = same_bytes (page_end a.self.now.image.now a.self.now.n j) l in
    let here = c.is_full.ensures in
    labelled_next a.self.now.image.now a.self.now.n l j
    ∙ ap₂ ◌||◌ c.loop-j.invariant
    (elim c.if-is_full.branch [
      | then-is_full+else-ends_in w ↦ ap₂ ◌&&◌ (sym here ∙ w.if-is_full.true)
          (compared a.self.now.image.now a.self.now.n a.b c.args.self.now.fits c.requires c.page_start.result c.page_start.ensures c.block-label.result c.block-label.ensures
          j w.page_start-then-is_full.result w.ends_in.result false c.loop-j-test.true w.page_start-then-is_full.ensures w.ends_in.ensures w.if-ends_in.false)
      | else-is_full w ↦ ap (λ (t : Bool). t && other) (sym here ∙ w.if-is_full.false)
    ])
