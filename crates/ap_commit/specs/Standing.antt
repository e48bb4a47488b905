-- What a whole processor has of its stages' writes, transfer and locals that leave, from the nets that were made of the instructions.
use Rattle.std.specs.Prelude.{◌≡◌, ℕ, ◌+◌, true, List, length, slice_get, Option, None, Some}
use Rattle.ap_desc.specs.declared.design.Design.{Design}
use Rattle.ap_desc.specs.declared.design.Instr.{Instr}
use Rattle.ap_model.specs.FlightLocals.{is_live_in}
use Rattle.ap_model.specs.declared.storage.WritePort.{WritePort}
use Rattle.ap_model.specs.declared.storage.WritePort.TheVariants as port
use Rattle.ap_net.specs.declared.cell.Wire.{Wire}
use Rattle.ap_net.specs.Draft.{Draft, Extends}
use Rattle.ap_net.specs.Modules.{ModuleText}
use Rattle.ap_net.specs.Readings.{Always}
use Rattle.ap_signals.specs.DesignOutside.{enable_name, index_name, value_name}
use Rattle.ap_ctl.specs.declared.nets.ControlGiven.{ControlGiven}
use Rattle.ap_ctl.specs.declared.nets.ControlNets.{ControlNets}
use Rattle.ap_ctl.specs.Lists.{EachPair}
use Rattle.ap_ctl.specs.Meaning as control
use Rattle.ap_ctl.specs.Nets.{Shows}
use Rattle.ap_pipe.specs.Slots.{AreStageSlots}
use Rattle.ap_pipe.specs.declared.table.StageSlots.{StageSlots}
use Rattle.ap_stage.specs.declared.node.Course.{Course}
use Rattle.ap_stage.specs.declared.source.Ground.{Ground}
use Rattle.ap_effect.specs.declared.transfer.TransferNets.{TransferNets}
use Rattle.ap_effect.specs.declared.write.WriteNets.{WriteNets}
use Rattle.ap_outcome.specs.Outcomes.{IsLeavingOf}
use Rattle.ap_border.specs.Flights.{HasFlights}
use Rattle.ap_border.specs.Named.{IsNamed}
use Rattle.ap_bank.specs.Joins.{JoinsPort}
use Rattle.ap_whole.specs.Effects.{HasTransfer, HasWrites, IsIndexShown, IsShownAs, LeavesStage}
use Rattle.ap_whole.specs.Handed.{AreInstrCourses, course_value}
use Rattle.ap_whole.specs.Homes.{IsHomeOf}
use Rattle.ap_commit.specs.declared.write.UsedPort.{UsedPort}
use Rattle.ap_commit.specs.Written.{IsTransferred, IsWritten}

-- the nets of a port are shown at its names
pub record IsPortShown (design : Design) (d : Draft) (p : WritePort) (made : WriteNets) : Type 0 where
  pub enable : IsShownAs d (enable_name design p) made.enable
  pub index : IsIndexShown design d p made.index
  pub value : IsShownAs d (value_name design p) made.value

-- nets that were declared for the port stand at its names; a register's port has no index
abbrev pub IsIndexNamed : Design → Draft → WritePort → Option Wire → Type 0
IsIndexNamed design d (port.Register reg) index = index ≡ None
IsIndexNamed design d p None = ⊥
IsIndexNamed design d p (Some index) = IsNamed d (index_name design p) index

pub record IsPortNamed (design : Design) (d : Draft) (p : WritePort) (to : WriteNets) : Type 0 where
  pub enable : IsNamed d (enable_name design p) to.enable
  pub index : IsIndexNamed design d p to.index
  pub value : IsNamed d (value_name design p) to.value

-- Where these were joined to others, they show them in each later draft.
abbrev pub JoinedPortsShow : Type 0
JoinedPortsShow = (design : Design) (a b d : Draft) (p : WritePort) (to from : WriteNets) → JoinsPort to from a b → Extends b d → IsPortNamed design d p to → IsPortShown design d p from

-- Nets that were made for a write port and are shown in a later draft, where the stage fires as control says, are its writes.
abbrev pub WritesStand : Type 0
WritesStand = (design : Design) (a d : Draft) (modules : List ModuleText) (given : ControlGiven) (nets : ControlNets) (ground : Ground) (courses : List Course) (stage : ℕ) (fires : Wire) (used : UsedPort) (made : WriteNets)
    → Extends a d → IsWritten a design stage ground courses fires used made → AreInstrCourses design d ground courses → Shows design given nets.valid d (λ look. control.fires design look stage) fires → IsPortShown design d used.port made
    → HasWrites design d modules given nets ground.word (course_value ground courses) stage used.port

-- control is given the net that says whether the transfer is taken, and the pc goes to its target
pub record IsTransferShown (d : Draft) (given : ControlGiven) (target : Wire) (made : TransferNets) : Type 0 where
  pub taken : Always d (λ r. r.read given.taken.number ≡ r.read made.taken.number)
  pub goes : Always d (λ r. r.read target.number ≡ r.read made.target.number)

abbrev pub TransferStands : Type 0
TransferStands = (design : Design) (a d : Draft) (modules : List ModuleText) (given : ControlGiven) (nets : ControlNets) (ground : Ground) (courses : List Course) (valid target : Wire) (width : ℕ) (made : TransferNets)
    → Extends a d → IsTransferred a design ground courses valid width made → AreInstrCourses design d ground courses → Shows design given nets.valid d (λ look. look.valid design.branch) valid → IsTransferShown d given target made
    → HasTransfer design d modules given nets ground.word target (course_value ground courses)

-- The registers of the next stage have the slots of these homes, take what the stage leaves, and keep each live local in its home's slot.
pub record AreSlotsFor (design : Design) (d : Draft) (home : ℕ → Instr → ℕ → ℕ) (flights : HasFlights design d) (slots : StageSlots) (courses : List Course) (stage : ℕ) : Type 0 where
  pub are : AreStageSlots design (stage + 1) slots
  pub homes : flights.homes (stage + 1) ≡ slots.homes
  pub each : EachPair (IsLeavingOf courses) slots.homes (flights.locals (stage + 1))
  pub count : length (flights.registers (stage + 1)).slots ≡ length slots.widths
  pub kept : (k i : ℕ) (instr : Instr) → slice_get design.instrs k ≡ Some instr → is_live_in design (stage + 1) i instr ≡ true → IsHomeOf slots.homes k i (home (stage + 1) instr i)

abbrev pub LeavingStands : Type 0
LeavingStands = (design : Design) (d : Draft) (modules : List ModuleText) (home : ℕ → Instr → ℕ → ℕ) (flights : HasFlights design d) (slots : StageSlots) (ground : Ground) (courses : List Course) (stage : ℕ)
    → AreInstrCourses design d ground courses → AreSlotsFor design d home flights slots courses stage → LeavesStage design d modules home flights ground.word (course_value ground courses) stage
