use Rattle.std.proofs.Common.{◌≡◌, map, take}
use Rattle.ap_net.specs.declared.net.Port.{Port}
use Rattle.ap_net.proofs.builder.outputs_of.Given as goal

abbrev pub invariant-loop-port : goal.invariant-loop-port
invariant-loop-port l = l.list ≡ map (λ (p : Port). p.output) (take l.port-index l.ports)
