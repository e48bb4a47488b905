use Rattle.std.proofs.Common.{◌≡◌, map, take}
use Rattle.ap_vr.specs.Built.{output_of}
use Rattle.ap_vr.proofs.building.outputs.Given as goal

abbrev pub invariant-loop-port : goal.invariant-loop-port
invariant-loop-port l = l.made ≡ map output_of (take l.port-index l.ports)
