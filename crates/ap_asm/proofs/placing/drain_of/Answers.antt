use Rattle.std.proofs.Common.{◌+◌, ◌<◌, length, get_or, drop, max, ap, ◌∙◌, arith}
use Rattle.std.specs.Prelude.{fold}
use Rattle.ap_dist.specs.LeastStarts.{drain_of_group}
use Rattle.ap_dist.specs.declared.source.Group.{Group}
use Rattle.ap_dist.proofs.Read.{greater_is_max}
use Rattle.ap_asm.proofs.Drains.{fold_step}
use Rattle.ap_asm.proofs.placing.drain_of.Goals as goal

pub loop-group-preserved : goal.loop-group-preserved
loop-group-preserved c =
    let i = c.loop-group.group-index in
    let lt : c.loop-group.group-index < length c.args.source.now.groups = (let z = ap length c.as_slice-group-items.ensures in omega (arith, c.loop-group-test.true)) in
    ap (λ m. fold (λ most (g : Group). max most (drain_of_group c.args.design.now g)) m (drop (c.loop-group.group-index + 1) c.args.source.now.groups)) (c.max-drain.ensures ∙ greater_is_max c.loop-group.drain c.drain_of_group.result ∙ ap (max c.loop-group.drain) c.drain_of_group.ensures)
    ∙ fold_step (drain_of_group c.args.design.now) c.args.source.now.groups c.loop-group.group-index c.loop-group.drain c.group-item.result lt (c.group-item.is ∙ ap (λ xs. get_or xs c.loop-group.group-index c.group-item.result) c.as_slice-group-items.ensures)
    ∙ c.loop-group.invariant
