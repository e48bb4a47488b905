use Rattle.std.proofs.Common.{◌≡◌, ◌<◌, ℕ, get_or}
use Rattle.ap_ports.specs.Orders.{bits_below}
use Rattle.ap_ports.proofs.ways.Ways.ahead.Given as goal

abbrev pub invariant-loop-node : goal.invariant-loop-node
invariant-loop-node l = (k : ℕ) → k < l.node → get_or l.count-items k 0 ≡ bits_below (get_or l.self.rows k 0) 68
