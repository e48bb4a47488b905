-- A processor's finished draft and its run: all pieces together, and what is left to show of the data of its stages.
use Rattle.std.specs.Prelude.{◌≡◌, ℕ, ◌+◌, ◌-◌, ◌<◌, ◌≤◌, false, true, List, length, None}
use Rattle.ap_bits.specs.declared.card.Card.{Card}
use Rattle.ap_desc.specs.Clean.{FitsCards}
use Rattle.ap_desc.specs.declared.design.Design.{Design}
use Rattle.ap_image.specs.declared.image.Image.{Image}
use Rattle.ap_image.specs.declared.trace.Trace.{Trace}
use Rattle.ap_model.specs.declared.storage.WritePort.{WritePort}
use Rattle.ap_model.specs.Cycles.{inputs_at, over}
use Rattle.ap_model.specs.Ports.{is_used_in}
use Rattle.ap_model.specs.ShownRows.{row}
use Rattle.ap_net.specs.Draft.{Draft}
use Rattle.ap_net.specs.Modules.{ModuleText}
use Rattle.ap_net.specs.Readings.{Reading}
use Rattle.ap_net.specs.Rows as net
use Rattle.ap_net.specs.Runs.{Runs}
use Rattle.ap_cycle.specs.Circuit.{EachStage, IsCircuit, ProperBefore, ShowsAsked, ShowsFired}
use Rattle.ap_cycle.specs.Signals.{goes_on}
use Rattle.ap_signals.specs.Asked.{AsksOneOf}
use Rattle.ap_signals.specs.DesignOutside.{outside_of}
use Rattle.ap_signals.specs.KeptNets.{HasRegisters, KeepsMachine}
use Rattle.ap_signals.specs.NetRuns.{NetRun}
use Rattle.ap_signals.specs.NetSignals.{is_slow_unit_of, net_signals}
use Rattle.ap_ctl.specs.declared.nets.ControlGiven.{ControlGiven}
use Rattle.ap_ctl.specs.declared.nets.ControlNets.{ControlNets}
use Rattle.ap_ctl.specs.Meaning.{is_held}
use Rattle.ap_ctl.specs.Nets.{Shows}
use Rattle.ap_border.specs.Control.{HasControl, look_at}
use Rattle.ap_border.specs.Fetch.{HasFetch}
use Rattle.ap_border.specs.Files.{HasFiles}
use Rattle.ap_border.specs.Flights.{HasFlights, HomesWithin}
use Rattle.ap_border.specs.Named.{IsReadBy}
use Rattle.ap_border.specs.SlowUnits.{HasSlowUnit}
use Rattle.ap_border.specs.Storages.{HasRegs}

-- One draft with control, the pc, the registers of flights, registers, files and units of several cycles; and its run.
pub record RunsProcessor (design : Design) (image : Image) (trace : Trace) (run : NetRun) (c : ℕ) (reading : ℕ → Reading) : Type 0 where
  pub draft : Draft
  pub modules : List ModuleText
  pub given : ControlGiven
  pub nets : ControlNets
  pub runs : Runs (outside_of design) run.flat image trace c run.states run.values
  pub mems : length image.mems ≡ length design.mems
  pub read : IsReadBy draft modules run c reading
  pub branch : design.branch ≤ design.stages - 1
  pub control : HasControl design draft modules given nets
  -- a transfer is taken only where its stage has a word
  pub taken : (j : ℕ) → j < c → (look_at design given run reading j).taken ≡ true → (look_at design given run reading j).valid design.branch ≡ true
  pub fetch : HasFetch design draft given nets
  pub flights : HasFlights design draft
  pub homes : HomesWithin design draft flights run
  pub held : (stage : ℕ) → 1 ≤ stage → stage ≤ design.stages - 1 → Shows design given nets.valid draft (λ look. is_held design look stage) (flights.hold stage)
  pub regs : HasRegs design draft
  pub files : HasFiles design draft modules
  pub units : (stage unit : ℕ) → is_slow_unit_of design stage unit ≡ true → HasSlowUnit design draft modules given nets stage unit

-- What the stages' data show: a stage whose word doesn't go on writes nothing; what is asked of units, by their operations; and what the
-- flights do that fire.
pub record ShowsData (design : Design) (cards : List Card) (image : Image) (trace : Trace) (run : NetRun) (c : ℕ) (reading : ℕ → Reading) (runs : RunsProcessor design image trace run c reading) : Type 0 where
  pub unwritten : (j : ℕ) → j < c → EachStage design (λ stage. goes_on design (net_signals design run j) stage ≡ false → (p : WritePort) → is_used_in design stage p ≡ true → (net_signals design run j).write p ≡ None)
  pub operations : (stage unit : ℕ) → (slow : is_slow_unit_of design stage unit ≡ true) → AsksOneOf design stage unit (net_signals design run) (length ((runs.units stage unit slow).card).ops) c
  pub asked : (j : ℕ) → j < c → EachStage design (ShowsAsked design cards (inputs_at design trace j) (net_signals design run j))
  pub shown : (j : ℕ) → j < c → ProperBefore design (net_signals design run) (j + 1) → EachStage design (ShowsFired design cards (inputs_at design trace j) (net_signals design run j))

-- then its signals meet the border
abbrev pub ProcessorsAreCircuits : Type 0
ProcessorsAreCircuits = (design : Design) (cards : List Card) (image : Image) (trace : Trace) (run : NetRun) (c : ℕ) (reading : ℕ → Reading) → (runs : RunsProcessor design image trace run c reading)
    → ShowsData design cards image trace run c reading runs → IsCircuit design cards image trace c (net_signals design run)

-- it has the registers that a processor has
abbrev pub ProcessorsHaveRegisters : Type 0
ProcessorsHaveRegisters = (design : Design) (image : Image) (trace : Trace) (run : NetRun) (c : ℕ) (reading : ℕ → Reading) → RunsProcessor design image trace run c reading → HasRegisters design run.flat

-- so it keeps the machine's state before each cycle, and shows its rows
pub record IsMachine (design : Design) (cards : List Card) (image : Image) (trace : Trace) (run : NetRun) (c : ℕ) : Type 0 where
  pub keeps : (j : ℕ) → j ≤ c → KeepsMachine design run.flat (run.states j) (over design cards image trace j)
  pub rows : (j : ℕ) → j < c → net.shown_row (outside_of design) run.flat (run.values j) ≡ row design cards image trace j

abbrev pub ProcessorsAreTheMachine : Type 0
ProcessorsAreTheMachine = (design : Design) (cards : List Card) (image : Image) (trace : Trace) (run : NetRun) (c : ℕ) (reading : ℕ → Reading) → FitsCards design cards → (runs : RunsProcessor design image trace run c reading)
    → ShowsData design cards image trace run c reading runs → IsMachine design cards image trace run c
