-- What the last steps of a top give to the border, in each later draft: its front, and the locals that leave the stages.
use Rattle.std.specs.Prelude.{◌≡◌, ℕ, ◌+◌, ◌-◌, ◌≤◌, List, Some, slice_get}
use Rattle.ap_desc.specs.Clean.{IsClean}
use Rattle.ap_desc.specs.declared.design.Design.{Design}
use Rattle.ap_net.specs.declared.cell.Wire.{Wire}
use Rattle.ap_net.specs.Draft.{Draft, Extends}
use Rattle.ap_net.specs.Modules.{ModuleText}
use Rattle.ap_pipe.specs.declared.table.SlotTable.{SlotTable}
use Rattle.ap_pipe.specs.Slots.{AreSlotsOf}
use Rattle.ap_ctl.specs.declared.nets.ControlGiven.{ControlGiven}
use Rattle.ap_ctl.specs.declared.nets.ControlNets.{ControlNets}
use Rattle.ap_ctl.specs.Given.{slow_units}
use Rattle.ap_ctl.specs.Lists.{EachPair}
use Rattle.ap_ctl.specs.Nets.{AddsControl, IsControl}
use Rattle.ap_stages.specs.declared.stage.ServedStage.{ServedStage}
use Rattle.ap_border.specs.Control.{IsBusyOf}
use Rattle.ap_whole.specs.Effects.{LeavesStage}
use Rattle.ap_whole.specs.Handed.{course_value}
use Rattle.ap_front.specs.declared.ports.Ports.{Ports}
use Rattle.ap_front.specs.declared.registers.Registers.{Registers}
use Rattle.ap_front.specs.Controlling.{words_of}
use Rattle.ap_front.specs.Driven.{GivesFlights}
use Rattle.ap_front.specs.Ports.{HasPorts}
use Rattle.ap_built.specs.Front.{IsFrontBuilt, kept_in}
use Rattle.ap_flow.specs.declared.flow.Flow.{Flow}
use Rattle.ap_flow.specs.Flowing.{Flows}

-- Control was added before, over the words of these stages and the port that has them wait.
pub record IsControlOf (design : Design) (r : Registers) (p : Ports) (given : ControlGiven) (nets : ControlNets) (d : Draft) : Type 0 where
  pub before : Draft
  pub after : Draft
  pub ports : HasPorts design before p
  pub words : given.words ≡ words_of r.stages
  pub wait : given.mwait ≡ p.mwait
  pub adds : AddsControl design given before after nets
  pub control : IsControl design given after nets
  pub later : Extends after d

-- With control, which units tell whether they are busy, the front is built.
abbrev pub FlowsGiveFront : Type 0
FlowsGiveFront = (design : Design) (modules : List ModuleText) (table : SlotTable) (r : Registers) (p : Ports) (given : ControlGiven) (control : ControlNets) (target : Wire) (stages : List ServedStage) (made : Flow) (old new d : Draft) → AreSlotsOf design table
    → Flows design table r p control target stages made old new → Extends new d → IsControlOf design r p given control old → EachPair (IsBusyOf design d modules) (slow_units design) given.busy
    → IsFrontBuilt design d modules table r made.comings made.fetching given control

-- The locals of a stage's instructions leave for the next stage, with homes as the table has them.
abbrev pub FlowsLeave : Type 0
FlowsLeave = (design : Design) (modules : List ModuleText) (table : SlotTable) (r : Registers) (p : Ports) (control : ControlNets) (target : Wire) (stages : List ServedStage) (made : Flow) (old new d : Draft) → IsClean design → AreSlotsOf design table
    → Flows design table r p control target stages made old new → Extends new d → (gives : GivesFlights design d table.stages r made.comings) (stage : ℕ) (s : ServedStage) → 1 ≤ stage → stage + 1 ≤ design.stages - 1 → slice_get stages (stage - 1) ≡ Some s
    → LeavesStage design d modules (kept_in design table.stages) gives.has s.ground.word (course_value s.ground s.courses.items) stage
