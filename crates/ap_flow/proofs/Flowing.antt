-- The steps one after the other: what each needs is there after the one before.
use Rattle.std.proofs.Common.{◌≡◌, ◌≢◌, ℕ, List, [], ◌∷◌, flat_map, sym, ap, subst, ◌∙◌, arith}
use Rattle.std.specs.Prelude.{codes, slice_get}
use Rattle.std.specs.List.{AllByRecursion as Each}
use Rattle.ap_desc.specs.declared.design.Design.{Design}
use Rattle.ap_net.specs.declared.cell.Wire.{Wire}
use Rattle.ap_net.specs.declared.net.ModuleNet.{ModuleNet}
use Rattle.ap_net.specs.declared.net.Port.{Port}
use Rattle.ap_net.specs.Draft.{Draft, Extends}
use Rattle.ap_net.specs.Late.{IsLate}
use Rattle.ap_net.specs.Modules.{port_net}
use Rattle.ap_net.specs.Outside.{output}
use Rattle.ap_net.proofs.Laws.{Extends-trans}
use Rattle.ap_net.proofs.Lists.{All-from, All-map, All-unmap, some_same}
use Rattle.ap_pipe.specs.declared.table.SlotTable.{SlotTable}
use Rattle.ap_ctl.specs.declared.nets.ControlNets.{ControlNets}
use Rattle.ap_ctl.specs.Building.{IsBit}
use Rattle.ap_flight.specs.declared.stage.Coming.{Coming}
use Rattle.ap_flight.specs.Stages.{stage_wires}
use Rattle.ap_flight.proofs.Driving.{open_later}
use Rattle.ap_stages.specs.declared.stage.ServedStage.{ServedStage}
use Rattle.ap_front.specs.declared.fetch.Fetching.{Fetching}
use Rattle.ap_front.specs.declared.ports.Ports.{Ports}
use Rattle.ap_front.specs.declared.registers.Registers.{Registers}
use Rattle.ap_front.specs.Driven.{DrivesStages, IsOther}
use Rattle.ap_front.specs.Fetching.{DrivesFetch, IsFetching}
use Rattle.ap_front.specs.Ports.{IsPort}
use Rattle.ap_front.proofs.Driving.{bit_on, like_on}
use Rattle.ap_flow.specs.Flowing.{CanFlow, fetching_of}
use Rattle.ap_flow.proofs.Lists.{each_of_one}

-- the names of the three outputs differ

abbrev first_letter : List ℕ → ℕ
first_letter [] = 0
first_letter (x ∷ name) = x

stall_no_iaddr : codes "stall" ≢ codes "iaddr"
stall_no_iaddr e = let h : 115 ≡ 105 = ap first_letter e in omega (arith, h)

kill_no_iaddr : codes "kill" ≢ codes "iaddr"
kill_no_iaddr e = let h : 107 ≡ 105 = ap first_letter e in omega (arith, h)

kill_no_stall : codes "kill" ≢ codes "stall"
kill_no_stall e = let h : 107 ≡ 115 = ap first_letter e in omega (arith, h)

-- ports of different names are different nets
ports_differ : (d : Draft) (p q : Port) (v w : Wire) → IsPort d p v → IsPort d q w → p.name ≢ q.name → v.number ≢ w.number
ports_differ d p q v w h k differ same =
    let one : port_net p ≡ port_net q = some_same (sym h.there ∙ ap (slice_get d.nets) same ∙ k.there) in
    differ (ap (λ (n : ModuleNet). n.name) one)

pub bits_on : (a b : Draft) (ws : List Wire) → Extends a b → Each (IsBit a.nets) ws → Each (IsBit b.nets) ws
bits_on a b ws e h = All-from (IsBit a.nets) (IsBit b.nets) (λ w k. bit_on e w k) ws h

module _ (design : Design) (a : Draft) (table : SlotTable) (r : Registers) (p : Ports) (control : ControlNets) (target : Wire) (stages : List ServedStage) (can : CanFlow design a table r p control target stages) where
  -- the pc is none of the registers of the stages
  pc_is_other : IsOther r.stages r.pc.number
  pc_is_other place q at =
      let all = All-unmap (λ m. m ≢ r.pc.number) (λ (w : Wire). w.number) (flat_map stage_wires r.stages) can.free.apart.0 in
      All-map (λ m. m ≢ r.pc.number) (λ (w : Wire). w.number) (stage_wires q) (each_of_one (λ (w : Wire). w.number ≢ r.pc.number) stage_wires r.stages all place q at)

  stall_apart : p.stall.number ≢ p.iaddr.number
  stall_apart = ports_differ a (output (codes "stall") 1) (output (codes "iaddr") design.address) p.stall p.iaddr can.ports.stall can.ports.iaddr stall_no_iaddr

  kill_apart : p.kill.number ≢ p.iaddr.number
  kill_apart = ports_differ a (output (codes "kill") 1) (output (codes "iaddr") design.address) p.kill p.iaddr can.ports.kill can.ports.iaddr kill_no_iaddr

  pub shown_apart : p.kill.number ≢ p.stall.number
  shown_apart = ports_differ a (output (codes "kill") 1) (output (codes "stall") 1) p.kill p.stall can.ports.kill can.ports.stall kill_no_stall

  -- once the registers of the stages are driven, the pc and the address can be
  pub can_fetch : (hold : Wire) (comings : List Coming) (b : Draft) → IsBit a.nets hold → DrivesStages r.stages table.stages comings a b → IsFetching b (fetching_of r p control hold target)
  can_fetch hold comings b bit y = record {
    pc = open_later a b r.pc y.extends (y.others r.pc.number pc_is_other can.free.each.0.free) can.free.each.0;
    address = y.late p.iaddr can.iaddr;
    same = can.ports.iaddr.wide ∙ sym can.names.pc_wide;
    hold = bit_on y.extends hold bit;
    kill = bit_on y.extends control.kill can.killed;
    target = like_on y.extends r.pc target can.goes;
  }

  -- and once the address is, control can be shown
  module _ (f : Fetching) (comings : List Coming) (b c : Draft) (is : f.address ≡ p.iaddr) (y : DrivesStages r.stages table.stages comings a b) (z : DrivesFetch f b c) where
    pub to_fetched : Extends a c
    to_fetched = Extends-trans a b c y.extends z.extends

    pub stall_late : IsLate c p.stall
    stall_late = z.late p.stall (subst (λ (w : Wire). p.stall.number ≢ w.number) (sym is) stall_apart) (y.late p.stall can.stall)

    pub kill_late : IsLate c p.kill
    kill_late = z.late p.kill (subst (λ (w : Wire). p.kill.number ≢ w.number) (sym is) kill_apart) (y.late p.kill can.kill)
