use Rattle.std.proofs.Common.{false}
use Rattle.ap_vr.specs.Driving.{assign_drives}
use Rattle.ap_vr.specs.Nets.{number_of}
use Rattle.ap_vr.proofs.Marks.{DrivenSoFar}
use Rattle.ap_vr.proofs.driving.drive_assigns.Given as goal

abbrev pub invariant-loop-place : goal.invariant-loop-place
invariant-loop-place l = DrivenSoFar (assign_drives (number_of l.nets.names)) l.nets.forms false l.from l.assigns l.fn.marked.items l.marked.items l.first l.place
