use Rattle.std.proofs.Common.{◌≡◌, map, take}
use Rattle.ap_vr.specs.Built.{net_joined, wire_of}
use Rattle.ap_vr.proofs.building.joined.Given as goal

abbrev pub invariant-loop-connection : goal.invariant-loop-connection
invariant-loop-connection l = l.made ≡ map (net_joined (wire_of l.nets.names l.nets.forms)) (take l.connection-index l.connections)
