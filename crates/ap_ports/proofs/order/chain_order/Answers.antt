use Rattle.std.proofs.Common.{◌≡◌, arith, subst}
use Rattle.ap_ports.specs.Orders.{IsPicked}
use Rattle.ap_ports.proofs.Chain.{is_order}
use Rattle.ap_ports.proofs.Picked.{picked_none}
use Rattle.ap_ports.proofs.order.chain_order.Goals as goal

pub loop-behind-init : goal.loop-behind-init
loop-behind-init c = rw c.new-order.ensures (picked_none c.nodes_of-nodes.result c.ahead-ahead.result c.in-Ok.ways c.ahead-ahead.ensures)

pub returns-clause-order : goal.returns-clause-order
returns-clause-order c =
    let end : c.loop-behind.behind ≡ 69 = omega arith in
    is_order c.args.design.now c.requires c.args.stage c.nodes_of-nodes.result c.in-Ok.ways c.ahead-ahead.result c.loop-behind.order c.nodes_of-nodes.ensures c.in-Ok.ensures.graph c.in-Ok.ensures.unlooped c.ahead-ahead.ensures
    (subst (λ k. IsPicked c.nodes_of-nodes.result c.ahead-ahead.result k 0 c.loop-behind.order) end c.loop-behind.invariant)
