use Rattle.std.proofs.Common.{◌≡◌, ◌++◌, map, take}
use Rattle.ap_vr.specs.Nets.{port_form}
use Rattle.ap_vr.proofs.nets.push_ports.Given as goal

abbrev pub invariant-loop-port : goal.invariant-loop-port
invariant-loop-port l = l.forms ≡ l.fn.forms ++ map port_form (take l.port-index l.ports)
