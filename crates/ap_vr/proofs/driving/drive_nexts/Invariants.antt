use Rattle.std.proofs.Common.{true}
use Rattle.ap_vr.specs.Driving.{next_drives}
use Rattle.ap_vr.specs.Nets.{number_of}
use Rattle.ap_vr.proofs.Marks.{DrivenSoFar}
use Rattle.ap_vr.proofs.driving.drive_nexts.Given as goal

abbrev pub invariant-loop-place : goal.invariant-loop-place
invariant-loop-place l = DrivenSoFar (next_drives (number_of l.nets.names)) l.nets.forms true l.from l.nexts l.fn.marked.items l.marked.items l.first l.place
