use Rattle.std.proofs.Common.{◌≡◌, map, take}
use Rattle.ap_net.specs.declared.net.Port.{Port}
use Rattle.ap_flat.proofs.names.Names.of_ports.Given as goal

abbrev pub invariant-loop-port : goal.invariant-loop-port
invariant-loop-port l = l.names ≡ take l.port-index (map (λ (x : Port). x.name) l.ports)
