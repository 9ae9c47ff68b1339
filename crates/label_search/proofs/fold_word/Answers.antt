-- As it is defined. Assumes nothing.
use Rattle.std.proofs.Common.{refl}
use Rattle.label_search.specs.InnerFilter.{folded}
use Rattle.label_search.proofs.fold_word.Goals as goal

pub returns : goal.returns
unfolding folded
returns c = refl
