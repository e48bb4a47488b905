use Rattle.ap_vr.specs.Scope.{net_name}
use Rattle.ap_vr.proofs.NameTables.{AddedSoFar}
use Rattle.ap_vr.proofs.scope.add_declared.Given as goal

abbrev pub invariant-loop-place : goal.invariant-loop-place
invariant-loop-place l = AddedSoFar net_name l.from l.nets l.fn.names l.names l.first l.place
