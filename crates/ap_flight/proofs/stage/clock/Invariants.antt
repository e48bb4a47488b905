use Rattle.std.proofs.Common.{◌≡◌, take}
use Rattle.ap_net.specs.Late.{StayLate}
use Rattle.ap_ctl.specs.Nets.{with_nexts}
use Rattle.ap_flight.proofs.stage.clock.Given as goal

abbrev pub invariant-loop-place : goal.invariant-loop-place
invariant-loop-place l = record {
  out : l.out ≡ with_nexts l.fn.out (take l.place l.registers) (take l.place l.nets);
  late : StayLate l.fn.out l.out;
}
