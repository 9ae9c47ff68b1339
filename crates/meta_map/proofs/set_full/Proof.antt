-- What is written is the full tag. Assumes nothing.
use borrow.Author.Rules.{rules}
use Rattle.meta_map.proofs.set_full.Statement.{statement}
use Rattle.meta_map.proofs.set_full.Tie as tie

full-entry-requires : tie.Need-full_entry-requires
full-entry-requires c κs = search rules

set-tag-requires : tie.Need-set_tag-requires
set-tag-requires c κs = search rules

same_length : tie.Need-shape_of-tags
same_length c = search rules

returns : tie.Need-returns
returns c = rw c.before.before.before.full_entry.ensures at c.before.before.set_tag.ensures

pub set_full_spec : {M : Type 1} → statement M
set_full_spec = tie.close (tie.spec full-entry-requires set-tag-requires same_length returns)
