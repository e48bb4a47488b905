-- The front of a processor's finished draft: the pc, the registers of flights and control, as they were built, and what the border asks of them.
use Rattle.std.specs.Prelude.{◌≡◌, ℕ, ◌-◌, ◌<◌, ◌≤◌, true, List, Contains, length, slice_get, Some}
use Rattle.std.specs.List.{AllByRecursion as Each}
use Rattle.ap_desc.specs.Clean.{IsClean}
use Rattle.ap_desc.specs.declared.design.Design.{Design}
use Rattle.ap_desc.specs.declared.design.Instr.{Instr}
use Rattle.ap_model.specs.Fire.{instr_of}
use Rattle.ap_model.specs.FlightLocals.{is_live}
use Rattle.ap_net.specs.declared.cell.Wire.{Wire}
use Rattle.ap_net.specs.Cells.{IsNet}
use Rattle.ap_net.specs.Draft.{Draft}
use Rattle.ap_net.specs.Modules.{ModuleText}
use Rattle.ap_pipe.specs.declared.table.SlotTable.{SlotTable}
use Rattle.ap_pipe.specs.declared.table.StageSlots.{StageSlots}
use Rattle.ap_pipe.specs.Slots.{AreSlotsOf}
use Rattle.ap_ctl.specs.declared.nets.ControlGiven.{ControlGiven}
use Rattle.ap_ctl.specs.declared.nets.ControlNets.{ControlNets}
use Rattle.ap_ctl.specs.Given.{slow_units}
use Rattle.ap_ctl.specs.Lists.{EachPair}
use Rattle.ap_ctl.specs.Meaning.{is_held}
use Rattle.ap_ctl.specs.Nets.{Shows}
use Rattle.ap_flight.specs.declared.stage.Coming.{Coming}
use Rattle.ap_border.specs.Control.{HasControl, IsBusyOf}
use Rattle.ap_border.specs.Fetch.{HasFetch}
use Rattle.ap_front.specs.declared.fetch.Fetching.{Fetching}
use Rattle.ap_front.specs.declared.registers.Registers.{Registers}
use Rattle.ap_front.specs.Controlling.{IsControlled, words_of}
use Rattle.ap_whole.specs.Homes.{home_of}
use Rattle.ap_front.specs.Driven.{GivesFlights, IsFlying, at_stage, no_slots}
use Rattle.ap_front.specs.Fetching.{IsFetched}
use Rattle.ap_front.specs.Opened.{front_wires}

-- the slot that keeps a local, by stage, instruction and local: that of its first home
abbrev pub kept_in : Design → List StageSlots → ℕ → Instr → ℕ → ℕ
kept_in design stages stage instr i = home_of design (at_stage no_slots stages stage).homes instr i

-- The pieces of the front, each by its names and driven. What says whether stages are held is the same in all of them: a net of control.
pub record IsFrontBuilt (design : Design) (d : Draft) (modules : List ModuleText) (table : SlotTable) (r : Registers) (comings : List Coming) (f : Fetching) (given : ControlGiven) (nets : ControlNets) : Type 0 where
  pub slots : AreSlotsOf design table
  pub there : Each (IsNet d.nets) (front_wires r)
  pub hold : Wire
  pub stall : Wire
  pub kill : Wire
  pub controlled : IsControlled design d given nets hold stall kill
  pub idata : Wire
  pub pc_from : Wire
  pub flying : IsFlying design d idata pc_from table.stages r comings
  pub fetched : IsFetched design d f
  pub words : given.words ≡ words_of r.stages
  pub busy : EachPair (IsBusyOf design d modules) (slow_units design) given.busy
  pub held : Contains nets.hold f.hold
  pub killed : f.kill ≡ nets.kill
  pub comes : (place : ℕ) (c : Coming) → slice_get comings place ≡ Some c → Contains nets.hold c.hold

-- What the border asks of them. The pc takes the target that fetching was given, and homes are those of the table.
pub record GivesFront (design : Design) (d : Draft) (modules : List ModuleText) (table : SlotTable) (r : Registers) (comings : List Coming) (f : Fetching) (given : ControlGiven) (nets : ControlNets) : Type 0 where
  pub control : HasControl design d modules given nets
  pub fetch : HasFetch design d given nets
  pub target : fetch.target ≡ f.target
  pub flights : GivesFlights design d table.stages r comings
  pub homes : (stage i word : ℕ) (instr : Instr) → 1 ≤ stage → stage ≤ design.stages - 1 → instr_of design word ≡ Some instr → is_live design word stage i ≡ true
      → kept_in design table.stages stage instr i < length ((flights.has).registers stage).slots
  pub words : (stage : ℕ) → 1 ≤ stage → stage ≤ design.stages - 1 → IsNet d.nets ((flights.has).registers stage).word × (((flights.has).registers stage).word.width ≡ design.word)
  pub holds : (stage : ℕ) → 1 ≤ stage → stage ≤ design.stages - 1 → Shows design given nets.valid d (λ look. is_held design look stage) ((flights.has).hold stage)

abbrev pub FrontsGiveBorder : Type 0
FrontsGiveBorder = (design : Design) (d : Draft) (modules : List ModuleText) (table : SlotTable) (r : Registers) (comings : List Coming) (f : Fetching) (given : ControlGiven) (nets : ControlNets) → IsClean design
    → IsFrontBuilt design d modules table r comings f given nets → GivesFront design d modules table r comings f given nets
