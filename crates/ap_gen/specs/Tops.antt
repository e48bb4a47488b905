-- How a top is put together: each part over the parts before it.
use Rattle.std.specs.Prelude.{◌≡◌, ℕ, ◌-◌, List, length}
use Rattle.std.specs.List.{AllByRecursion as Each}
use Rattle.ap_desc.specs.declared.design.Design.{Design}
use Rattle.ap_net.specs.declared.cell.Wire.{Wire}
use Rattle.ap_net.specs.Draft.{Draft}
use Rattle.ap_net.specs.Modules.{ModuleText}
use Rattle.ap_ctl.specs.declared.nets.ControlNets.{ControlNets}
use Rattle.ap_bank.specs.declared.bank.FileNets.{FileNets}
use Rattle.ap_front.specs.declared.ports.MemPorts.{MemPorts}
use Rattle.ap_front.specs.declared.ports.Ports.{Ports}
use Rattle.ap_front.specs.declared.registers.Registers.{Registers}
use Rattle.ap_stages.specs.Own.{AreNetsOf}
use Rattle.ap_stages.specs.Stages.{AreStaged}
use Rattle.ap_stages.specs.declared.stage.ServedStage.{ServedStage}
use Rattle.ap_supply.specs.Supplies.{AreSupplied, AreSuppliesOf, IsEntry, Placed, placed_of}
use Rattle.ap_staged.specs.Grounds.{AreSharedOf}
use Rattle.ap_rest.specs.Idle.{IdlesUnits, idle_units}
use Rattle.ap_rest.specs.Reads.{RestsLate, idle_reads, idle_writes}
use Rattle.ap_act.specs.Acting.{WritesAll}
use Rattle.ap_act.specs.Outputs.{shown_outputs}
use Rattle.ap_act.specs.Taken.{TakesTransfer}
use Rattle.ap_flow.specs.Flowing.{Flows}
use Rattle.ap_gen.specs.declared.data.Data.{Data}
use Rattle.ap_gen.specs.declared.start.Start.{Start}
use Rattle.ap_gen.specs.declared.tables.Tables.{Tables}
use Rattle.ap_gen.specs.declared.top.Top.{Top}
use Rattle.ap_gen.specs.Started.{Starts}

-- What the first two parts have.

abbrev pub front_of : Start → Registers
front_of s = s.lead.declared.front

abbrev pub ports_of : Start → Ports
ports_of s = s.lead.declared.ports

abbrev pub regs_of : Start → List Wire
regs_of s = s.lead.declared.regs

abbrev pub control_of : Start → ControlNets
control_of s = s.work.nets

-- what was placed for the nodes of the design
abbrev pub placed_in : List ModuleText → List ℕ → Start → Placed
placed_in modules places s = placed_of modules places s.work.units s.lead.files (ports_of s).mems

-- The stages were made, from stage 1 on, over the registers and ports, control's conditions, and what was placed.
pub record MakesData (design : Design) (tables : Tables) (modules : List ModuleText) (places : List ℕ) (s : Start) (made : Data) (old new : Draft) : Type 0 where
  pub supplied : AreSuppliesOf design (placed_in modules places s) made.supplies
  pub all : AreSupplied design made.supplies
  pub shared : AreSharedOf (regs_of s) (ports_of s) made.shared
  pub own : AreNetsOf (front_of s).stages (control_of s).decoded made.own.items
  pub count : length made.stages.items ≡ design.stages - 1
  pub staged : AreStaged design tables.slots.stages tables.merged.choices made.supplies tables.paths.orders modules made.shared made.own.items old new made.stages.items
  pub entries : Each (IsEntry design (placed_in modules places s)) made.supplies

-- Units, read ports and memories that no line uses were put at rest.
pub record Rests (design : Design) (modules : List ModuleText) (places : List ℕ) (files : List FileNets) (mems : List MemPorts) (old new : Draft) : Type 0 where
  pub idled : Draft
  pub idles : IdlesUnits design modules places (idle_units design) old idled
  pub read : Draft
  pub reads : RestsLate (idle_reads design files mems) idled read
  pub writes : RestsLate (idle_writes design 0 mems) read new

-- What the stages write is shown, and the transfer was made.
pub record Acts (design : Design) (ports : Ports) (control : ControlNets) (taken target : Wire) (stages : List ServedStage) (old new : Draft) : Type 0 where
  pub written : Draft
  pub writes : WritesAll design control.fires stages (shown_outputs design ports) old written
  pub transfers : TakesTransfer design control.valid stages taken target written new

-- The parts one after another: until the stages are made, what no line uses rests, writes and the transfer are made, and all is driven.

pub record HasStages (design : Design) (tables : Tables) (modules : List ModuleText) (places : List ℕ) (s : Start) (made : Data) (new : Draft) : Type 0 where
  pub steered : Draft
  pub starts : Starts design tables.slots modules places s steered
  pub makes : MakesData design tables modules places s made steered new

pub record HasRests (design : Design) (tables : Tables) (modules : List ModuleText) (places : List ℕ) (s : Start) (made : Data) (new : Draft) : Type 0 where
  pub staged : Draft
  pub before : HasStages design tables modules places s made staged
  pub rests : Rests design modules places s.lead.files (ports_of s).mems staged new

pub record HasActs (design : Design) (tables : Tables) (modules : List ModuleText) (places : List ℕ) (s : Start) (made : Data) (target : Wire) (new : Draft) : Type 0 where
  pub rested : Draft
  pub before : HasRests design tables modules places s made rested
  pub acts : Acts design (ports_of s) (control_of s) s.work.taken target made.stages.items rested new

pub record Tops (design : Design) (tables : Tables) (modules : List ModuleText) (places : List ℕ) (made : Top) (new : Draft) : Type 0 where
  pub acted : Draft
  pub before : HasActs design tables modules places made.start made.stages made.target acted
  pub flows : Flows design tables.slots (front_of made.start) (ports_of made.start) (control_of made.start) made.target made.stages.stages.items made.flow acted new
