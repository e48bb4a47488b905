use Rattle.std.proofs.Common.{◌≡◌, map, take}
use Rattle.ap_vr.specs.Built.{next_of, wire_of}
use Rattle.ap_vr.proofs.building.nexts.Given as goal

abbrev pub invariant-loop-one : goal.invariant-loop-one
invariant-loop-one l = l.made.items ≡ map (next_of (wire_of l.nets.names l.nets.forms)) (take l.one-index l.said)
