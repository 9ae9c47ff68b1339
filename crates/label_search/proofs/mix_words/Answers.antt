-- As it is defined, call by call. Assumes nothing.
use Rattle.std.proofs.Common.{ap, ap₂, ◌∙◌, ℕ, bit_xor}
use Rattle.label_search.specs.InnerFilter.{spread, folded, mixed}
use Rattle.label_search.proofs.mix_words.Goals as goal

pub returns : goal.returns
unfolding mixed
returns c =
    let low = ap₂ bit_xor c.spread_word.ensures c.spread_word-2.ensures in
    let high = ap₂ bit_xor c.spread_word-3.ensures c.spread_word-4.ensures in
    let first = c.fold_word.ensures ∙ ap folded (ap₂ bit_xor low high) in
    c.fold_word-2.ensures ∙ ap folded (c.spread_word-5.ensures ∙ ap (λ (x : ℕ). spread x 0xC2B2AE3D 0x27D4EB2F) first)
