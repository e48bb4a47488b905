use Rattle.ap_ports.specs.Orders.{IsPicked}
use Rattle.ap_ports.proofs.order.chain_order.Given as goal

abbrev pub invariant-loop-behind : goal.invariant-loop-behind
invariant-loop-behind l = IsPicked l.nodes l.ahead l.behind 0 l.order
