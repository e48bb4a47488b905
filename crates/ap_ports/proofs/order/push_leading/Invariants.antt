use Rattle.ap_ports.specs.Orders.{IsPicked}
use Rattle.ap_ports.proofs.order.push_leading.Given as goal

abbrev pub invariant-loop-number : goal.invariant-loop-number
invariant-loop-number l = IsPicked l.nodes l.ahead l.behind l.number l.order
