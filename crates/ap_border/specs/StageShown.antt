-- All data of the stages: besides the values of operands, what is asked of units of several cycles and what they give, what is written and
-- taken, and the locals that leave.
use Rattle.std.specs.Prelude.{◌≡◌, ℕ, ◌+◌, ◌-◌, ◌<◌, ◌≤◌, false, true, List, length, slice_get, Some}
use Rattle.ap_bits.specs.declared.card.Card.{Card}
use Rattle.ap_desc.specs.Chains.{maker_in}
use Rattle.ap_desc.specs.declared.design.Act.TheVariants as act
use Rattle.ap_desc.specs.declared.design.Arg.{Arg}
use Rattle.ap_desc.specs.declared.design.Arg.TheVariants as arg
use Rattle.ap_desc.specs.declared.design.Design.{Design}
use Rattle.ap_desc.specs.declared.design.Instr.{Instr}
use Rattle.ap_desc.specs.declared.design.Micro.{Micro}
use Rattle.ap_desc.specs.Clean.{FitsCards}
use Rattle.ap_image.specs.declared.image.Image.{Image}
use Rattle.ap_image.specs.declared.trace.Trace.{Trace}
use Rattle.ap_model.specs.declared.storage.WritePort.{WritePort}
use Rattle.ap_model.specs.Fire.{instr_of, lines_in}
use Rattle.ap_model.specs.FlightLocals.{is_live}
use Rattle.ap_model.specs.Ports.{is_used_in}
use Rattle.ap_model.specs.UnitUse.{asks, lines_ask}
use Rattle.ap_net.specs.declared.cell.Wire.{Wire}
use Rattle.ap_net.specs.Draft.{Draft}
use Rattle.ap_net.specs.Modules.{ModuleText}
use Rattle.ap_net.specs.Readings.{Reading}
use Rattle.ap_signals.specs.NetRuns.{NetRun}
use Rattle.ap_signals.specs.NetSignals.{is_slow_unit_of, net_signals}
use Rattle.ap_ctl.specs.declared.nets.ControlGiven.{ControlGiven}
use Rattle.ap_ctl.specs.declared.nets.ControlNets.{ControlNets}
use Rattle.ap_effect.specs.Border.{GivesTransfer, GivesWrite}
use Rattle.ap_border.specs.Files.{HasFiles}
use Rattle.ap_border.specs.Processor.{IsMachine, RunsProcessor, ShowsData}
use Rattle.ap_border.specs.SlowUnits.{HasSlowUnit}
use Rattle.ap_border.specs.StageData.{HasInstr, WhereMatched}

-- An instruction asks a unit of several cycles: the unit's inputs are what the one line asks that uses it, by an operation of the unit's
-- card; and the local of a line that uses it has the unit's result.
pub record AsksUnit (design : Design) (cards : List Card) (d : Draft) (modules : List ModuleText) (files : HasFiles design d modules) (given : ControlGiven) (nets : ControlNets) (home : ℕ → Instr → ℕ → ℕ) (stage : ℕ) (word place : Wire) (instr : Instr)
    (h : HasInstr design cards d modules files home stage word place instr) (unit : ℕ) (s : HasSlowUnit design d modules given nets stage unit) : Type 0 where
  pub card : slice_get cards (s.resource).kind ≡ Some s.card
  pub chosen : WhereMatched d modules word instr (λ r. r.parts s.k 0 < length (s.card).ops)
  pub asked : WhereMatched d modules word instr (λ r. lines_ask (h.value r) unit (lines_in stage instr) ≡ Some (record { sel = r.parts s.k 0; a = r.parts s.k 1; b = r.parts s.k 2 }))
  pub result : (n op : ℕ) (a b : Arg) (m : Micro) → maker_in instr stage (arg.Local n) ≡ Some m → m.act ≡ act.Compute unit op a b
      → WhereMatched d modules word instr (λ r. (h.value r (arg.Local n) ≡ r.parts s.k 6) × (r.parts s.k 0 ≡ op) × (r.parts s.k 1 ≡ h.value r a) × (r.parts s.k 2 ≡ h.value r b))

-- The data of all stages.
pub record HasData (design : Design) (cards : List Card) (image : Image) (trace : Trace) (run : NetRun) (c : ℕ) (reading : ℕ → Reading) (p : RunsProcessor design image trace run c reading) : Type 0 where
  pub instrs : (stage k : ℕ) (instr : Instr) → 1 ≤ stage → stage ≤ design.stages - 1 → slice_get design.instrs k ≡ Some instr
      → HasInstr design cards p.draft p.modules p.files run.home stage (p.flights.registers stage).word (p.flights.registers stage).place instr
  pub units : (stage k : ℕ) (instr : Instr) (low : 1 ≤ stage) (high : stage ≤ design.stages - 1) (at : slice_get design.instrs k ≡ Some instr) (unit : ℕ) (slow : is_slow_unit_of design stage unit ≡ true) (seen : ℕ) → instr_of design seen ≡ Some instr
      → asks design stage seen unit ≡ true → AsksUnit design cards p.draft p.modules p.files p.given p.nets run.home stage (p.flights.registers stage).word (p.flights.registers stage).place instr (instrs stage k instr low high at) unit (p.units stage unit slow)
  -- in each cycle, what is written and taken, by values that are those of the instruction which is there
  pub value : (j stage : ℕ) → Arg → ℕ
  pub values : (j stage k : ℕ) (instr : Instr) (low : 1 ≤ stage) (high : stage ≤ design.stages - 1) (at : slice_get design.instrs k ≡ Some instr) → j < c → instr_of design ((net_signals design run j).word stage) ≡ Some instr
      → (a : Arg) → value j stage a ≡ (instrs stage k instr low high at).value (reading j) a
  pub writes : (j stage : ℕ) → j < c → 1 ≤ stage → stage ≤ design.stages - 1 → (q : WritePort) → is_used_in design stage q ≡ true → GivesWrite design (net_signals design run j) stage ((net_signals design run j).word stage) q (value j stage)
  pub taken : (j : ℕ) → j < c → GivesTransfer design (net_signals design run j) ((net_signals design run j).word design.branch) (value j design.branch)
  -- a local that is live into the next stage leaves where the stage isn't held
  pub left : (j stage i : ℕ) → j < c → 1 ≤ stage → stage ≤ design.stages - 1 → (net_signals design run j).hold stage ≡ false → (net_signals design run j).valid stage ≡ true → is_live design ((net_signals design run j).word stage) (stage + 1) i ≡ true
      → (net_signals design run j).left stage i ≡ value j stage (arg.Local i)

-- so the stages show what the border asks of their data
abbrev pub DataAreShown : Type 0
DataAreShown = (design : Design) (cards : List Card) (image : Image) (trace : Trace) (run : NetRun) (c : ℕ) (reading : ℕ → Reading) (p : RunsProcessor design image trace run c reading)
    → HasData design cards image trace run c reading p → ShowsData design cards image trace run c reading p

-- and the netlist is the machine
abbrev pub CompleteProcessorsAreTheMachine : Type 0
CompleteProcessorsAreTheMachine = (design : Design) (cards : List Card) (image : Image) (trace : Trace) (run : NetRun) (c : ℕ) (reading : ℕ → Reading) → FitsCards design cards → (p : RunsProcessor design image trace run c reading)
    → HasData design cards image trace run c reading p → IsMachine design cards image trace run c
