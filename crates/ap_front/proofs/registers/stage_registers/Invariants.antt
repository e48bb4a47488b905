use Rattle.std.proofs.Common.{◌≡◌, ◌+◌, length, take, drop}
use Rattle.std.specs.Prelude.{flat_map}
use Rattle.std.specs.List.{AllByRecursion as Each}
use Rattle.ap_net.specs.Draft.{CanFresh}
use Rattle.ap_net.specs.Late.{StayLate}
use Rattle.ap_net.specs.Modules.{ports_among}
use Rattle.ap_flight.specs.Planned.{IsNewIn, KeepsOther, register_wires, stages_plan, with_registers}
use Rattle.ap_flight.specs.Stages.{stage_wires}
use Rattle.ap_front.specs.Opened.{NamesStages}
use Rattle.ap_front.proofs.registers.stage_registers.Given as goal

abbrev pub invariant-loop-place : goal.invariant-loop-place
invariant-loop-place l = record {
  out : l.out ≡ with_registers l.fn.out (stages_plan l.design 1 (take l.place l.slots.stages));
  wires : flat_map stage_wires l.made ≡ register_wires (length l.fn.out.nets) (stages_plan l.design 1 (take l.place l.slots.stages));
  names : NamesStages l.design l.out 1 (take l.place l.slots.stages) l.made;
  new : Each (IsNewIn l.out) (stages_plan l.design (l.place + 1) (drop l.place l.slots.stages));
  fresh : CanFresh l.out;
  late : StayLate l.fn.out l.out;
  ports : ports_among l.out.nets ≡ ports_among l.fn.out.nets;
  others : KeepsOther (stages_plan l.design 1 (take l.place l.slots.stages)) l.fn.out l.out;
}
