use Rattle.ap_vr.specs.Scope.{instance_name}
use Rattle.ap_vr.proofs.NameTables.{AddedSoFar}
use Rattle.ap_vr.proofs.scope.add_instances.Given as goal

abbrev pub invariant-loop-place : goal.invariant-loop-place
invariant-loop-place l = AddedSoFar instance_name l.from l.instances l.fn.names l.names l.first l.place
