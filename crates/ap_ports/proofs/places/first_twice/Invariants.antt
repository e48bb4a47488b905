use Rattle.ap_ports.proofs.Twice.{IsSeen}
use Rattle.ap_ports.proofs.places.first_twice.Given as goal

abbrev pub invariant-loop-place : goal.invariant-loop-place
invariant-loop-place l = IsSeen l.micros l.used l.place
