use Rattle.std.proofs.Common.{ℕ, take}
use Rattle.std.specs.Prelude.{◌↔◌}
use Rattle.ap_ports.specs.Orders.{UsesNodeIn}
use Rattle.ap_ports.specs.Ways.{Has}
use Rattle.ap_ports.proofs.order.with_nodes.Given as goal

abbrev pub invariant-loop-micro : goal.invariant-loop-micro
invariant-loop-micro l = (n : ℕ) → Has l.nodes n ↔ UsesNodeIn l.before l.stage (take l.micro-index l.micros) n
