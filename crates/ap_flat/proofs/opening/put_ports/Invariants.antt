use Rattle.std.proofs.Common.{◌≡◌, ◌++◌, map, take}
use Rattle.ap_net.specs.declared.net.Port.{Port}
use Rattle.ap_net.specs.Modules.{port_net}
use Rattle.ap_flat.specs.Opening.{net_in}
use Rattle.ap_flat.proofs.opening.put_ports.Given as goal

abbrev pub invariant-loop-port : goal.invariant-loop-port
invariant-loop-port l = l.nets.items ≡ l.fn.nets.items ++ map (λ (x : Port). net_in l.place.top l.place.part (port_net x)) (take l.port-index l.ports)
