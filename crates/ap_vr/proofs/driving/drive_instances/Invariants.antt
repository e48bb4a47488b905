use Rattle.std.proofs.Common.{false}
use Rattle.ap_vr.specs.Driving.{instance_drives}
use Rattle.ap_vr.specs.Nets.{number_of}
use Rattle.ap_vr.specs.Scope.{module_named}
use Rattle.ap_vr.specs.Tables.{listed}
use Rattle.ap_vr.proofs.Marks.{DrivenSoFar}
use Rattle.ap_vr.proofs.driving.drive_instances.Given as goal

abbrev pub invariant-loop-place : goal.invariant-loop-place
invariant-loop-place l = DrivenSoFar (instance_drives (module_named (listed l.modules)) (number_of l.nets.names)) l.nets.forms false l.from l.instances l.fn.marked.items l.marked.items l.first l.place
