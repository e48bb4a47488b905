use Rattle.std.proofs.Common.{◌≡◌, map, take}
use Rattle.ap_vr.specs.Built.{instance_of, wire_of}
use Rattle.ap_vr.specs.Scope.{module_named}
use Rattle.ap_vr.specs.Tables.{listed}
use Rattle.ap_vr.proofs.building.instances.Given as goal

abbrev pub invariant-loop-one : goal.invariant-loop-one
invariant-loop-one l = l.made.items ≡ map (instance_of (module_named (listed l.modules)) (wire_of l.nets.names l.nets.forms)) (take l.one-index l.said)
