-- The four words are those of the label. Assumes nothing.
use Rattle.std.proofs.Common.{ap, ◌∙◌, arith, ◌+◌, ◌≤◌, length}
use Rattle.ht_file.proofs.Laws.{image_fits_facts, start_is}
use Rattle.label_search.specs.InnerFilter.{mixed, key_of}
use Rattle.label_search.proofs.Labels.{label_within, end_read, key_read}
use Rattle.label_search.proofs.Table.label_key.Goals as goal

pub returns : goal.returns
returns c =
    let a = c.args in
    let at = c.page_start-at.result in
    let f = image_fits_facts a.self.now.n (length a.self.now.image.now) c.args.self.now.fits in
    let place : at + 4064 + 32 ≤ length a.self.now.image.now =
    omega (arith, c.page_start-at.ensures ∙ start_is a.self.now.n a.b f.1 (omega (arith, c.requires)), label_within a.self.now.n a.b (length a.self.now.image.now) f.2 c.requires) in
    let w0 = c.read_u64-w0.ensures in
    let w1 = c.read_u64-w1.ensures in
    let w2 = c.read_u64-w2.ensures in
    let w3 = c.read_u64-w3.ensures in
    c.mix_words.ensures ∙ (λ i. mixed (w0 i) (w1 i) (w2 i) (w3 i)) ∙ key_read a.self.now.image.now (at + 4064) place
    ∙ ap key_of (end_read a.self.now.image.now a.self.now.n a.b at f.1 (omega (arith, c.requires)) c.page_start-at.ensures)
