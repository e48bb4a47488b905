-- What a stage's lines do besides their locals, in a finished draft: writes, the transfer, and the locals that leave for the next stage. All by
-- the values of operands, which are told by stage, number of the instruction and reading.
use Rattle.std.specs.Prelude.{◌≡◌, ℕ, ◌+◌, true, List, length, map, Option, option_map, None, slice_get, slice_index, Some}
use Rattle.std.specs.List.{AllByRecursion as Each}
use Rattle.ap_desc.specs.declared.design.Arg.{Arg}
use Rattle.ap_desc.specs.declared.design.Arg.TheVariants as arg
use Rattle.ap_desc.specs.declared.design.Design.{Design}
use Rattle.ap_desc.specs.declared.design.Instr.{Instr}
use Rattle.ap_model.specs.declared.storage.WritePort.{WritePort}
use Rattle.ap_model.specs.declared.storage.WritePort.TheVariants as port
use Rattle.ap_model.specs.Fire.{is_match}
use Rattle.ap_model.specs.FlightLocals.{is_live_in}
use Rattle.ap_net.specs.declared.cell.Wire.{Wire}
use Rattle.ap_net.specs.declared.net.ModuleNet.{ModuleNet}
use Rattle.ap_net.specs.Cells.{IsNet}
use Rattle.ap_net.specs.Draft.{Draft}
use Rattle.ap_net.specs.Modules.{ModuleText}
use Rattle.ap_net.specs.Readings.{Always, Reading}
use Rattle.ap_signals.specs.DesignOutside.{enable_name, index_name, value_name}
use Rattle.ap_ctl.specs.declared.nets.ControlGiven.{ControlGiven}
use Rattle.ap_ctl.specs.declared.nets.ControlNets.{ControlNets}
use Rattle.ap_ctl.specs.Building.{Tells}
use Rattle.ap_ctl.specs.Lists.{EachPair}
use Rattle.ap_ctl.specs.Meaning as control
use Rattle.ap_ctl.specs.Nets.{Shows}
use Rattle.ap_pipe.specs.Slots.{AreStageSlots}
use Rattle.ap_pipe.specs.declared.table.Home.{Home}
use Rattle.ap_pipe.specs.declared.table.StageSlots.{StageSlots}
use Rattle.ap_flight.specs.declared.entry.Leaving.{Leaving}
use Rattle.ap_effect.specs.declared.line.PortLine.{PortLine}
use Rattle.ap_effect.specs.declared.transfer.Transfer.{Transfer}
use Rattle.ap_effect.specs.declared.transfer.TransferNets.{TransferNets}
use Rattle.ap_effect.specs.declared.write.WriteNets.{WriteNets}
use Rattle.ap_effect.specs.declared.write.Writer.{Writer}
use Rattle.ap_effect.specs.Lines.{transfer_lines, write_lines}
use Rattle.ap_effect.specs.Shown.{net_value}
use Rattle.ap_effect.specs.Writers.{AreTransferNets, AreWriteNets, IsWriter, writer_of}
use Rattle.ap_border.specs.Flights.{HasFlights}
use Rattle.ap_border.specs.Named.{IsNamed}
use Rattle.ap_border.specs.StageData.{WhereMatched}
use Rattle.ap_whole.specs.Homes.{IsHomeOf}

-- The writer of a line: its condition tells whether the stage's word matches the line's instruction; where it does, the writer's nets have
-- the values of what the line hands in.
pub record WritesLine (design : Design) (d : Draft) (modules : List ModuleText) (word : Wire) (value : ℕ → Reading → Arg → ℕ) (line : PortLine) (w : Writer) : Type 0 where
  pub instr : Instr
  pub at : slice_get design.instrs line.instr ≡ Some instr
  pub cond : Tells d (λ r. is_match (r.read word.number) instr) w.cond
  pub guard : WhereMatched d modules word instr (λ r. option_map (net_value r) w.guard ≡ option_map (value line.instr r) line.guard)
  pub index : WhereMatched d modules word instr (λ r. option_map (net_value r) w.index ≡ option_map (value line.instr r) line.index)
  pub written : WhereMatched d modules word instr (λ r. r.read w.value.number ≡ value line.instr r line.value)

-- a net of this name has always the value of the other
pub record IsShownAs (d : Draft) (name : List ℕ) (w : Wire) : Type 0 where
  pub net : Wire
  pub named : IsNamed d name net
  pub same : Always d (λ r. r.read net.number ≡ r.read w.number)

-- a register's port has no index
abbrev pub IsIndexShown : Design → Draft → WritePort → Option Wire → Type 0
IsIndexShown design d (port.Register reg) index = index ≡ None
IsIndexShown design d p None = ⊥
IsIndexShown design d p (Some index) = IsShownAs d (index_name design p) index

-- A write port by which lines of a stage write: over the writers of these lines, shown at the port's names.
pub record HasWrites (design : Design) (d : Draft) (modules : List ModuleText) (given : ControlGiven) (nets : ControlNets) (word : Wire) (value : ℕ → Reading → Arg → ℕ) (stage : ℕ) (p : WritePort) : Type 0 where
  pub fires : Wire
  pub goes : Shows design given nets.valid d (λ look. control.fires design look stage) fires
  pub old : List ModuleNet
  pub writers : List Writer
  pub bits : Option ℕ
  pub width : ℕ
  pub made : WriteNets
  pub fit : Each (IsWriter old bits width) writers
  pub are : AreWriteNets d fires writers bits width made
  pub lines : EachPair (WritesLine design d modules word value) (write_lines design stage p) writers
  pub enable : IsShownAs d (enable_name design p) made.enable
  pub index : IsIndexShown design d p made.index
  pub shown : IsShownAs d (value_name design p) made.value

-- The transfer: over the transfers of its stage's lines. Control takes it, and the pc its target.
pub record HasTransfer (design : Design) (d : Draft) (modules : List ModuleText) (given : ControlGiven) (nets : ControlNets) (word target : Wire) (value : ℕ → Reading → Arg → ℕ) : Type 0 where
  pub valid : Wire
  pub there : Shows design given nets.valid d (λ look. look.valid design.branch) valid
  pub transfers : List Transfer
  pub width : ℕ
  pub made : TransferNets
  pub are : AreTransferNets d valid transfers width made
  pub lines : EachPair (WritesLine design d modules word value) (transfer_lines design design.branch) (map writer_of transfers)
  pub taken : Always d (λ r. r.read given.taken.number ≡ r.read made.taken.number)
  pub goes : Always d (λ r. r.read target.number ≡ r.read made.target.number)

-- what is left to a home: under the condition of its instruction the local's value, in as many bits as the local has
pub record LeavesLocal (design : Design) (d : Draft) (modules : List ModuleText) (word : Wire) (value : ℕ → Reading → Arg → ℕ) (home : Home) (l : Leaving) : Type 0 where
  pub instr : Instr
  pub at : slice_get design.instrs home.instr ≡ Some instr
  pub cond : Tells d (λ r. is_match (r.read word.number) instr) l.cond
  pub net : IsNet d.nets l.net
  pub wide : l.net.width ≡ slice_index instr.locals home.local
  pub left : WhereMatched d modules word instr (λ r. r.read l.net.number ≡ value home.instr r (arg.Local home.local))

-- The locals that leave a stage, for the slots of the next.
pub record LeavesStage (design : Design) (d : Draft) (modules : List ModuleText) (home : ℕ → Instr → ℕ → ℕ) (flights : HasFlights design d) (word : Wire) (value : ℕ → Reading → Arg → ℕ) (stage : ℕ) : Type 0 where
  pub slots : StageSlots
  pub are : AreStageSlots design (stage + 1) slots
  pub homes : flights.homes (stage + 1) ≡ slots.homes
  pub each : EachPair (LeavesLocal design d modules word value) slots.homes (flights.locals (stage + 1))
  pub count : length (flights.registers (stage + 1)).slots ≡ length slots.widths
  pub kept : (k i : ℕ) (instr : Instr) → slice_get design.instrs k ≡ Some instr → is_live_in design (stage + 1) i instr ≡ true → IsHomeOf slots.homes k i (home (stage + 1) instr i)
