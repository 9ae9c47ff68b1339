-- The tag looked at counts where it is full. Assumes nothing.
use Rattle.std.proofs.Common.{arith, rules, get_or}
use Rattle.std.proofs.lemmas.Grind.{common_steps}
use Rattle.std.proofs.lemmas.Bool.Decides.{nat_tests}
use Rattle.meta_map.specs.Tags.{full, count_of}
use Rattle.meta_map.proofs.Laws.{count-suc, kind_full}
use Rattle.meta_map.proofs.full_among.Goals as goal

pub loop-tag-init : goal.loop-tag-init
unfolding count_of
loop-tag-init c = search rules

pub loop-tag-preserved : goal.loop-tag-preserved
loop-tag-preserved c =
    let more = count-suc full c.args.tags.now c.loop-tag.tag-index in
    let kind = kind_full (get_or c.args.tags.now c.loop-tag.tag-index 0) in
    record { counted = grind (arith, common_steps, nat_tests); few = omega arith }
