use Rattle.ap_front.proofs.Driving.{IsDrivenTo}
use Rattle.ap_front.proofs.flights.drive_stages.Given as goal

abbrev pub invariant-loop-place : goal.invariant-loop-place
invariant-loop-place l = record {
  driven : IsDrivenTo l.registers l.slots l.comings l.place l.fn.out l.out;
}
