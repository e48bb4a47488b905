-- A finished draft that has everything that a processor has, whatever its run; and what its netlist does.
use Rattle.std.specs.Prelude.{◌≡◌, ℕ, ◌+◌, ◌-◌, ◌<◌, ◌≤◌, true, List, [], ◌∷◌, ◌++◌, length, slice_get, Some}
use Rattle.ap_bits.specs.declared.card.Card.{Card}
use Rattle.ap_desc.specs.Clean.{FitsCards}
use Rattle.ap_desc.specs.declared.design.Arg.{Arg}
use Rattle.ap_desc.specs.declared.design.Design.{Design}
use Rattle.ap_desc.specs.declared.design.Instr.{Instr}
use Rattle.ap_image.specs.declared.image.Image.{Image}
use Rattle.ap_image.specs.declared.trace.Trace.{Trace}
use Rattle.ap_image.specs.FitsShape.{ImageFitsShape, TraceFitsShape}
use Rattle.ap_model.specs.declared.storage.WritePort.{WritePort}
use Rattle.ap_model.specs.Cycles.{over}
use Rattle.ap_model.specs.Fire.{instr_of}
use Rattle.ap_model.specs.FlightLocals.{is_live}
use Rattle.ap_model.specs.Ports.{is_used_in}
use Rattle.ap_model.specs.ShownRows.{row}
use Rattle.ap_model.specs.UnitUse.{asks}
use Rattle.ap_net.specs.Answering.{AlwaysRuns, LooksByPorts}
use Rattle.ap_net.specs.Cells.{IsNet}
use Rattle.ap_net.specs.Draft.{Draft, IsKept}
use Rattle.ap_net.specs.Finished.{IsFinished}
use Rattle.ap_net.specs.Flat.{Flat, opened_over}
use Rattle.ap_net.specs.Modules.{IsNetlist, ModuleText}
use Rattle.ap_net.specs.Opened.{AreOrdered}
use Rattle.ap_net.specs.Outside.{ports_of, shape_of}
use Rattle.ap_net.specs.Ready.{AllReady, Dependence}
use Rattle.ap_net.specs.Readings.{Reading}
use Rattle.ap_net.specs.Responding.{AreDependent, looked_in}
use Rattle.ap_net.specs.Rows as net
use Rattle.ap_net.specs.Runs.{NetState, Runs}
use Rattle.ap_signals.specs.DesignOutside.{outside_of}
use Rattle.ap_signals.specs.KeptNets.{KeepsMachine}
use Rattle.ap_signals.specs.NetSignals.{is_slow_unit_of}
use Rattle.ap_ctl.specs.declared.nets.ControlGiven.{ControlGiven}
use Rattle.ap_ctl.specs.declared.nets.ControlNets.{ControlNets}
use Rattle.ap_ctl.specs.Meaning.{is_held}
use Rattle.ap_ctl.specs.Nets.{Shows}
use Rattle.ap_border.specs.Control.{HasControl}
use Rattle.ap_border.specs.Fetch.{HasFetch}
use Rattle.ap_border.specs.Files.{HasFiles}
use Rattle.ap_border.specs.Flights.{HasFlights}
use Rattle.ap_border.specs.SlowUnits.{HasSlowUnit}
use Rattle.ap_border.specs.StageData.{HasInstr}
use Rattle.ap_border.specs.StageShown.{AsksUnit}
use Rattle.ap_border.specs.Storages.{HasRegs}
use Rattle.ap_whole.specs.Effects.{HasTransfer, HasWrites, LeavesStage}

-- One draft with control, the pc, the registers of flights, registers, files, units of several cycles, and the data of all stages.
pub record IsProcessor (design : Design) (cards : List Card) (d : Draft) (modules : List ModuleText) : Type 0 where
  -- the slot that keeps a local, by stage, instruction and local
  pub home : ℕ → Instr → ℕ → ℕ
  pub given : ControlGiven
  pub nets : ControlNets
  pub branch : design.branch ≤ design.stages - 1
  pub transfers : 1 ≤ design.branch
  pub control : HasControl design d modules given nets
  pub fetch : HasFetch design d given nets
  pub flights : HasFlights design d
  pub homes : (stage i word : ℕ) (instr : Instr) → 1 ≤ stage → stage ≤ design.stages - 1 → instr_of design word ≡ Some instr → is_live design word stage i ≡ true → home stage instr i < length (flights.registers stage).slots
  pub words : (stage : ℕ) → 1 ≤ stage → stage ≤ design.stages - 1 → IsNet d.nets (flights.registers stage).word × ((flights.registers stage).word.width ≡ design.word)
  pub held : (stage : ℕ) → 1 ≤ stage → stage ≤ design.stages - 1 → Shows design given nets.valid d (λ look. is_held design look stage) (flights.hold stage)
  pub regs : HasRegs design d
  pub files : HasFiles design d modules
  pub units : (stage unit : ℕ) → is_slow_unit_of design stage unit ≡ true → HasSlowUnit design d modules given nets stage unit
  -- the values of operands, by stage and number of the instruction
  pub value : ℕ → ℕ → Reading → Arg → ℕ
  pub instrs : (stage k : ℕ) (instr : Instr) → 1 ≤ stage → stage ≤ design.stages - 1 → slice_get design.instrs k ≡ Some instr
      → HasInstr design cards d modules files home stage (flights.registers stage).word (flights.registers stage).place instr
  pub values : (stage k : ℕ) (instr : Instr) (low : 1 ≤ stage) (high : stage ≤ design.stages - 1) (at : slice_get design.instrs k ≡ Some instr) (r : Reading) (a : Arg) → value stage k r a ≡ (instrs stage k instr low high at).value r a
  pub asked : (stage k : ℕ) (instr : Instr) (low : 1 ≤ stage) (high : stage ≤ design.stages - 1) (at : slice_get design.instrs k ≡ Some instr) (unit : ℕ) (slow : is_slow_unit_of design stage unit ≡ true) (seen : ℕ) → instr_of design seen ≡ Some instr
      → asks design stage seen unit ≡ true
      → AsksUnit design cards d modules files given nets home stage (flights.registers stage).word (flights.registers stage).place instr (instrs stage k instr low high at) unit (units stage unit slow)
  pub writes : (stage : ℕ) (p : WritePort) → 1 ≤ stage → stage ≤ design.stages - 1 → is_used_in design stage p ≡ true → HasWrites design d modules given nets (flights.registers stage).word (value stage) stage p
  pub transfer : HasTransfer design d modules given nets (flights.registers design.branch).word fetch.target (value design.branch)
  pub leaves : (stage : ℕ) → 1 ≤ stage → stage + 1 ≤ design.stages - 1 → LeavesStage design d modules home flights (flights.registers stage).word (value stage) stage

-- The draft is finished over these modules, each of its nets is ready, and its ports are those of the design's outside, which looks where it
-- is said to.
pub record IsFinishedProcessor (by : Dependence) (design : Design) (cards : List Card) (d : Draft) (modules : List ModuleText) (top : ModuleText) : Type 0 where
  pub kept : IsKept d
  pub ready : AllReady by d
  pub finished : IsFinished d top
  pub netlist : IsNetlist (modules ++ top ∷ [])
  pub ordered : AreOrdered modules
  pub dependent : AreDependent by modules
  pub ports : top.ports ≡ ports_of (outside_of design)
  pub looks : LooksByPorts (outside_of design) (looked_in top finished.place finished.back by.looks)
  pub processor : IsProcessor design cards d modules

-- A run keeps the machine's state before each cycle, and shows its rows.
pub record ShowsMachine (design : Design) (cards : List Card) (image : Image) (trace : Trace) (flat : Flat) (c : ℕ) (states : ℕ → NetState) (values : ℕ → List ℕ) : Type 0 where
  pub keeps : (j : ℕ) → j ≤ c → KeepsMachine design flat (states j) (over design cards image trace j)
  pub rows : (j : ℕ) → j < c → net.shown_row (outside_of design) flat (values j) ≡ row design cards image trace j

-- There is a run for every image and trace that fit, and for every number of cycles; and each run is the machine.
pub record RunsAsMachine (design : Design) (cards : List Card) (flat : Flat) : Type 0 where
  pub exists : AlwaysRuns (outside_of design) flat
  pub machine : (image : Image) (trace : Trace) (c : ℕ) (states : ℕ → NetState) (values : ℕ → List ℕ) → ImageFitsShape image (shape_of (outside_of design)) → TraceFitsShape trace (shape_of (outside_of design))
      → Runs (outside_of design) flat image trace c states values → ShowsMachine design cards image trace flat c states values

abbrev pub WholeProcessorsRun : Type 0
WholeProcessorsRun = (by : Dependence) (design : Design) (cards : List Card) (d : Draft) (modules : List ModuleText) (top : ModuleText) → FitsCards design cards → IsFinishedProcessor by design cards d modules top
    → RunsAsMachine design cards (opened_over modules top)
