use Rattle.std.proofs.Common.{ℕ, take}
use Rattle.std.specs.Prelude.{◌↔◌}
use Rattle.ap_ports.specs.Flow.{Some_of}
use Rattle.ap_ports.specs.Orders.{IsUse}
use Rattle.ap_ports.specs.Ways.{Has}
use Rattle.ap_ports.proofs.Elsewhere.{micros_of}
use Rattle.ap_ports.proofs.order.nodes_of.Given as goal

abbrev pub invariant-loop-instr : goal.invariant-loop-instr
invariant-loop-instr l = (n : ℕ) → Has l.nodes n ↔ Some_of (IsUse l.stage n) (micros_of (take l.instr-index l.design.instrs))
