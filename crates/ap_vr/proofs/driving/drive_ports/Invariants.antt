use Rattle.ap_vr.specs.Nets.{number_of}
use Rattle.ap_vr.proofs.Marks.{PortsSoFar}
use Rattle.ap_vr.proofs.driving.drive_ports.Given as goal

abbrev pub invariant-loop-place : goal.invariant-loop-place
invariant-loop-place l = PortsSoFar (number_of l.nets.names) l.nets.forms l.ports l.connections l.fn.marked.items l.marked.items l.right l.place
