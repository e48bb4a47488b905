use Rattle.std.proofs.Common.{◌∷◌, ◌++◌, take}
use Rattle.std.specs.List.{AllByRecursion as Each}
use Rattle.ap_net.specs.Late.{Reads}
use Rattle.ap_net.specs.Making.{Makes}
use Rattle.ap_net.specs.Pending.{IsFrom}
use Rattle.ap_net.specs.Ready.{numbers}
use Rattle.ap_flight.specs.Entries.{leaving_numbers}
use Rattle.ap_flight.specs.Stages.{AreSlotNets}
use Rattle.ap_flight.proofs.slots.slot_nets.Given as goal

abbrev pub invariant-loop-place : goal.invariant-loop-place
invariant-loop-place l = record {
  nets : AreSlotNets l.out l.hold l.homes l.list 0 (take l.place l.registers) l.nets;
  reads : Reads (l.hold.number ∷ numbers l.registers ++ leaving_numbers l.list) l.fn.out l.out;
  results : Each (IsFrom (l.hold.number ∷ numbers l.registers ++ leaving_numbers l.list) l.fn.out l.out) (numbers l.nets);
  makes : Makes l.fn.out l.out;
}
