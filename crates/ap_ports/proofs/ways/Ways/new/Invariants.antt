use Rattle.std.proofs.Common.{◌≡◌, ◌<◌, ℕ, get_or}
use Rattle.std.specs.Prelude.{◌↔◌}
use Rattle.ap_ports.specs.Ways.{Has}
use Rattle.ap_ports.proofs.ways.Ways.new.Given as goal

abbrev pub invariant-loop-node : goal.invariant-loop-node
invariant-loop-node l = (k : ℕ) → k < l.node → (y : ℕ) → Has (get_or l.row-items k 0) y ↔ (y ≡ k)
