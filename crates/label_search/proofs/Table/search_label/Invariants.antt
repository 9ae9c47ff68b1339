-- At the head of the loop no bucket so far has the label. Assumes nothing.
use Rattle.std.proofs.Common.{◌≡◌, false}
use Rattle.probe.specs.Path.{page_end}
use Rattle.label_search.specs.Labels.{labelled}
use Rattle.label_search.proofs.Table.search_label.Given as goal

abbrev pub invariant-loop-j : goal.invariant-loop-j
invariant-loop-j l = labelled l.self.image.now l.self.n (page_end l.self.image.now l.self.n l.b) l.j ≡ false
