use Rattle.std.proofs.Common.{◌+◌, ◌<◌, length, get_or, drop, max, refl, ap, ◌∙◌, arith}
use Rattle.ap_dist.specs.LeastStarts.{drain_of_lines}
use Rattle.ap_asm.proofs.Drains.{drain_step}
use Rattle.ap_asm.proofs.placing.drain_of_group.Goals as goal

pub loop-i-preserved : goal.loop-i-preserved
loop-i-preserved c =
    let lt : c.loop-i.i < length c.args.group.now.in_slots = (let z = ap length c.as_slice-line-items.ensures in omega (arith, c.loop-i-test.true)) in
    ap (λ n. max n (drain_of_lines c.args.design.now (c.loop-i.i + 1 + 1) (drop (c.loop-i.i + 1) c.args.group.now.in_slots))) c.max-drain.ensures
    ∙ drain_step c.args.design.now c.args.group.now.in_slots c.loop-i.i (c.loop-i.i + 1) (c.loop-i.i + 1 + 1) c.loop-i.drain c.drain_of_line.result c.line-item.result lt (c.line-item.is ∙ ap (λ xs. get_or xs c.loop-i.i c.line-item.result) c.as_slice-line-items.ensures) refl c.drain_of_line.ensures
    ∙ c.loop-i.invariant
