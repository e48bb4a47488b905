use Rattle.ap_vr.specs.Scope.{port_name}
use Rattle.ap_vr.proofs.NameTables.{AddedSoFar}
use Rattle.ap_vr.proofs.scope.add_ports.Given as goal

abbrev pub invariant-loop-place : goal.invariant-loop-place
invariant-loop-place l = AddedSoFar port_name l.from l.ports l.fn.names l.names l.first l.place
