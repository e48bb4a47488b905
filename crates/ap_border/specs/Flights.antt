-- The registers of the stages in a finished draft, by their names, and how words, addresses and locals go from cycle to cycle.
use Rattle.std.specs.Prelude.{◌≡◌, ℕ, ◌+◌, ◌-◌, ◌<◌, ◌≤◌, false, true, List, codes, length, Some}
use Rattle.ap_desc.specs.declared.design.Design.{Design}
use Rattle.ap_desc.specs.declared.design.Instr.{Instr}
use Rattle.ap_image.specs.declared.image.Image.{Image}
use Rattle.ap_image.specs.declared.trace.Trace.{Trace}
use Rattle.ap_model.specs.Fire.{instr_of}
use Rattle.ap_model.specs.FlightLocals.{is_live}
use Rattle.ap_net.specs.declared.cell.Wire.{Wire}
use Rattle.ap_net.specs.Draft.{Draft}
use Rattle.ap_net.specs.Modules.{ModuleText}
use Rattle.ap_net.specs.Outside.{Outside}
use Rattle.ap_net.specs.Readings.{Reading}
use Rattle.ap_net.specs.Runs.{Runs}
use Rattle.ap_cycle.specs.Circuit.{EachStage, Passes, Stays}
use Rattle.ap_signals.specs.NetRuns.{NetRun, pc_name, place_name, slot_name, word_name}
use Rattle.ap_signals.specs.NetSignals.{by_stage, net_signals}
use Rattle.ap_pipe.specs.declared.table.Home.{Home}
use Rattle.ap_ctl.specs.Border.{ValidGoesOn}
use Rattle.ap_ctl.specs.Building.{is_on}
use Rattle.ap_ctl.specs.Lists.{EachFrom}
use Rattle.ap_flight.specs.declared.entry.Leaving.{Leaving}
use Rattle.ap_flight.specs.declared.stage.StageRegisters.{StageRegisters}
use Rattle.ap_flight.specs.Entries.{SlotTakes, left_to}
use Rattle.ap_flight.specs.Stages.{PassesOn, TakesNet}
use Rattle.ap_border.specs.Named.{IsNamed, IsReadBy, IsRegisterNamed, IsZeroNamed}

-- a slot of a stage: it stays where the stage is held, and else takes what is left to it
pub record IsSlotOf (d : Draft) (homes : List Home) (locals : List Leaving) (hold : Wire) (stage slot : ℕ) (register : Wire) : Type 0 where
  pub named : IsZeroNamed d (slot_name stage slot) register
  pub takes : TakesNet d (SlotTakes hold register (left_to slot homes locals)) register

-- The registers of a stage: the word and its address stay where the stage is held, and else are these two that come.
pub record HasStage (d : Draft) (homes : List Home) (locals : List Leaving) (hold word place : Wire) (stage : ℕ) (registers : StageRegisters) : Type 0 where
  pub word_named : IsZeroNamed d (word_name stage) registers.word
  pub word_takes : TakesNet d (PassesOn hold registers.word word) registers.word
  pub place_named : IsZeroNamed d (place_name stage) registers.place
  pub place_takes : TakesNet d (PassesOn hold registers.place place) registers.place
  pub slots : EachFrom (IsSlotOf d homes locals hold stage) 0 registers.slots

-- The stages of a processor, each with the net that says that it is held, its homes, and what is left to them. To stage 1 come the word
-- that is fetched and the pc, to any later one the word and the address of the stage before.
pub record HasFlights (design : Design) (d : Draft) : Type 0 where
  pub fetched : Wire
  pub fetched_named : IsNamed d (codes "idata") fetched
  pub pc : Wire
  pub pc_from : Wire
  pub pc_named : IsRegisterNamed d pc_name 0 pc pc_from
  pub hold : ℕ → Wire
  pub homes : ℕ → List Home
  pub locals : ℕ → List Leaving
  pub registers : ℕ → StageRegisters
  pub each : (before stage : ℕ) → before + 1 ≡ stage → stage ≤ design.stages - 1
      → HasStage d (homes stage) (locals stage) (hold stage) (by_stage fetched (λ s. (registers s).word) before) (by_stage pc (λ s. (registers s).place) before) stage (registers stage)

-- where a local is live into a stage, its home is a slot of the stage
abbrev pub HomesWithin : (design : Design) (d : Draft) → HasFlights design d → NetRun → Type 0
HomesWithin design d has run = (stage i word : ℕ) (instr : Instr) → 1 ≤ stage → stage ≤ design.stages - 1 → instr_of design word ≡ Some instr → is_live design word stage i ≡ true → run.home stage instr i < length (has.registers stage).slots

-- a draft with stages, and its run
pub record RunsFlights (design : Design) (o : Outside) (image : Image) (trace : Trace) (run : NetRun) (c : ℕ) (reading : ℕ → Reading) : Type 0 where
  pub draft : Draft
  pub modules : List ModuleText
  pub runs : Runs o run.flat image trace c run.states run.values
  pub read : IsReadBy draft modules run c reading
  pub has : HasFlights design draft
  pub homes : HomesWithin design draft has run

-- in a cycle the nets say of each stage whether it is held
abbrev pub HoldsShown : (design : Design) (d : Draft) → HasFlights design d → NetRun → (ℕ → Reading) → ℕ → Type 0
HoldsShown design d has run reading j = EachStage design (λ stage. is_on (reading j) (has.hold stage) ≡ (net_signals design run j).hold stage)

-- From a cycle to the next: what goes on is passed on, and what is held stays.
pub record FlightsGo (design : Design) (run : NetRun) (j : ℕ) : Type 0 where
  pub passes : (stage : ℕ) → stage + 1 ≤ design.stages - 1 → (net_signals design run j).hold (stage + 1) ≡ false → Passes design (net_signals design run j) (net_signals design run (j + 1)) stage
  pub stays : EachStage design (λ stage. (net_signals design run j).hold stage ≡ true → Stays design (net_signals design run j) (net_signals design run (j + 1)) stage)

-- where the valid bits go on as the border asks, so do words, addresses and locals
abbrev pub FlightsGoOn : Type 0
FlightsGoOn = (design : Design) (o : Outside) (image : Image) (trace : Trace) (run : NetRun) (c : ℕ) (reading : ℕ → Reading) → (f : RunsFlights design o image trace run c reading) → (j : ℕ) → j < c
    → HoldsShown design f.draft f.has run reading j → EachStage design (ValidGoesOn design (net_signals design run j) (net_signals design run (j + 1))) → FlightsGo design run j
