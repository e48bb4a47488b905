use Rattle.std.proofs.Common.{◌≡◌, length, take, drop}
use Rattle.ap_net.specs.Draft.{CanFresh}
use Rattle.ap_net.specs.Late.{StayLate}
use Rattle.ap_net.specs.Modules.{ports_among}
use Rattle.ap_flight.specs.Planned.{AreNew, KeepsOther, register_wires, with_registers}
use Rattle.ap_flight.proofs.plan.declare.Given as goal

abbrev pub invariant-loop-planned : goal.invariant-loop-planned
invariant-loop-planned l = record {
  out : l.out ≡ with_registers l.fn.out (take l.planned-index l.plan);
  wires : l.made ≡ register_wires (length l.fn.out.nets) (take l.planned-index l.plan);
  new : AreNew (drop l.planned-index l.plan) l.out;
  fresh : CanFresh l.out;
  late : StayLate l.fn.out l.out;
  ports : ports_among l.out.nets ≡ ports_among l.fn.out.nets;
  others : KeepsOther (take l.planned-index l.plan) l.fn.out l.out;
}
