-- As it is defined. Assumes nothing.
use Rattle.std.proofs.Common.{refl}
use Rattle.label_search.specs.InnerFilter.{spread}
use Rattle.label_search.proofs.spread_word.Goals as goal

pub returns : goal.returns
unfolding spread
returns c = refl
