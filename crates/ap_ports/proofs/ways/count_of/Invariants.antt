use Rattle.std.proofs.Common.{◌≡◌}
use Rattle.ap_ports.specs.Orders.{bits_below}
use Rattle.ap_ports.proofs.ways.count_of.Given as goal

abbrev pub invariant-loop-node : goal.invariant-loop-node
invariant-loop-node l = l.count ≡ bits_below l.set l.node
