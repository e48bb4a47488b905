-- The last steps of a processor's top: the registers of its front get what they take, the address is fetched, and control is shown.
use Rattle.std.specs.Prelude.{◌≡◌, ◌≤◌, List, length, Contains}
use Rattle.std.specs.List.{AllByRecursion as Each}
use Rattle.ap_desc.specs.declared.design.Design.{Design}
use Rattle.ap_net.specs.declared.cell.Wire.{Wire}
use Rattle.ap_net.specs.Draft.{Draft}
use Rattle.ap_net.specs.Late.{IsLate}
use Rattle.ap_pipe.specs.declared.table.SlotTable.{SlotTable}
use Rattle.ap_ctl.specs.declared.nets.ControlNets.{ControlNets}
use Rattle.ap_ctl.specs.Building.{IsBit}
use Rattle.ap_flight.specs.declared.entry.Leaving.{Leaving}
use Rattle.ap_flight.specs.declared.stage.Coming.{Coming}
use Rattle.ap_flight.specs.Stages.{IsLike}
use Rattle.ap_stages.specs.declared.stage.ServedStage.{ServedStage}
use Rattle.ap_front.specs.declared.fetch.Fetching.{Fetching}
use Rattle.ap_front.specs.declared.ports.Ports.{Ports}
use Rattle.ap_front.specs.declared.registers.Registers.{Registers}
use Rattle.ap_front.specs.Coming.{AreComings}
use Rattle.ap_front.specs.Controlling.{ShowsControl}
use Rattle.ap_front.specs.Driven.{CanDrive, DrivesStages}
use Rattle.ap_front.specs.Fetching.{DrivesFetch}
use Rattle.ap_front.specs.Opened.{AreOpen, NamesFront, front_wires}
use Rattle.ap_front.specs.Ports.{HasPorts}
use Rattle.ap_flow.specs.declared.flow.Flow.{Flow}
use Rattle.ap_flow.specs.Left.{AreLeft, CanLeaveOn}

-- What stands before: the registers of the front by their names, which take nothing yet; the ports, three of which are driven later; what
-- control says and the target of a transfer, with their bits; and what the stages can leave.
pub record CanFlow (design : Design) (d : Draft) (table : SlotTable) (r : Registers) (p : Ports) (control : ControlNets) (target : Wire) (stages : List ServedStage) : Type 0 where
  pub names : NamesFront design d table.stages r
  pub free : AreOpen d (front_wires r)
  pub ports : HasPorts design d p
  pub iaddr : IsLate d p.iaddr
  pub stall : IsLate d p.stall
  pub kill : IsLate d p.kill
  pub some : 1 ≤ length control.hold
  pub hold : Each (IsBit d.nets) control.hold
  pub killed : IsBit d.nets control.kill
  pub goes : IsLike d.nets r.pc target
  pub leaves : CanLeaveOn design d table.stages stages

-- The registers of the stages got what comes to them, with what is left to their slots.
pub record DrivesFlights (table : SlotTable) (r : Registers) (p : Ports) (stages : List ServedStage) (hold : Wire) (comings : List Coming) (old new : Draft) : Type 0 where
  pub locals : List (List Leaving)
  pub left : AreLeft table.stages stages locals
  pub come : AreComings r p.idata hold locals comings
  pub can : CanDrive old r.stages table.stages comings
  pub drives : DrivesStages r.stages table.stages comings old new

-- by these nets the pc and the address are driven
abbrev pub fetching_of : Registers → Ports → ControlNets → Wire → Wire → Fetching
fetching_of r p control hold target = record { pc = r.pc; address = p.iaddr; hold = hold; kill = control.kill; target = target }

-- The steps one after the other: flights, the address, and what control shows.
pub record Flows (design : Design) (table : SlotTable) (r : Registers) (p : Ports) (control : ControlNets) (target : Wire) (stages : List ServedStage) (made : Flow) (old new : Draft) : Type 0 where
  pub can : CanFlow design old table r p control target stages
  pub hold : Wire
  pub first : Contains control.hold hold
  pub flown : Draft
  pub flights : DrivesFlights table r p stages hold made.comings old flown
  pub fetched : Draft
  pub fetching : made.fetching ≡ fetching_of r p control hold target
  pub fetches : DrivesFetch made.fetching flown fetched
  pub shows : ShowsControl control p.stall p.kill fetched new
