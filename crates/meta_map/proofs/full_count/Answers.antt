-- A fitting table has n tags; each part adds its own to the count. Assumes nothing.
use Rattle.std.proofs.Common.{arith, sym, length, ◌≤◌}
use Rattle.std.proofs.lemmas.Grind.{common_steps}
use Rattle.ht_file.proofs.Laws.{tags_fit_facts, table_fits}
use Rattle.meta_map.specs.Tags.{full}
use Rattle.meta_map.proofs.Laws.{count-take, count-append, count-le, count-nothing}
use Rattle.meta_map.proofs.full_count.Goals as goal

pub loop-part-init : goal.loop-part-init
loop-part-init c =
    let f = tags_fit_facts c.args.n (length c.args.tags.now) (table_fits _ (sym c.in_ok-check_tags.ensures)) in
    let t = count-take full c.args.tags.now c.args.n (omega (arith, f.1)) in
    grind (arith, common_steps)

pub overflow_add-count : goal.overflow_add-count
overflow_add-count c =
    let f = tags_fit_facts c.args.n (length c.args.tags.now) (table_fits _ (sym c.in_ok-check_tags.ensures)) in
    let m = count-le full c.args.tags.now c.args.n in
    grind (arith, common_steps, count-append)

pub loop-part-preserved : goal.loop-part-preserved
loop-part-preserved c = grind (arith, common_steps, count-append)

pub returns : goal.returns
returns c = grind (arith, common_steps, count-nothing)
