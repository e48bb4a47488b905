-- A finished draft of a processor's top as its pieces were built, whatever its run; and that it is a whole processor.
use Rattle.std.specs.Prelude.{◌≡◌, ℕ, ◌+◌, ◌-◌, ◌≤◌, false, true, List, Option, codes, slice_get, Some}
use Rattle.ap_bits.specs.declared.card.Card.{Card}
use Rattle.ap_desc.specs.Clean.{FitsCards}
use Rattle.ap_desc.specs.declared.design.Design.{Design}
use Rattle.ap_desc.specs.declared.design.File.{File}
use Rattle.ap_model.specs.declared.storage.WritePort.{WritePort}
use Rattle.ap_model.specs.Ports.{is_used, is_used_in}
use Rattle.ap_net.specs.declared.cell.Wire.{Wire}
use Rattle.ap_net.specs.Draft.{Draft}
use Rattle.ap_net.specs.Modules.{ModuleText}
use Rattle.ap_pipe.specs.declared.table.SlotTable.{SlotTable}
use Rattle.ap_signals.specs.DesignOutside.{enable_name}
use Rattle.ap_signals.specs.NetSignals.{is_slow_unit_of}
use Rattle.ap_ctl.specs.declared.nets.ControlGiven.{ControlGiven}
use Rattle.ap_ctl.specs.declared.nets.ControlNets.{ControlNets}
use Rattle.ap_flight.specs.declared.stage.Coming.{Coming}
use Rattle.ap_stage.specs.declared.chain.Node.{Node}
use Rattle.ap_stage.specs.declared.chain.Node.TheVariants as node
use Rattle.ap_stage.specs.declared.node.Course.{Course}
use Rattle.ap_stage.specs.declared.serve.SlowUnit.{SlowUnit}
use Rattle.ap_stage.specs.declared.source.Ground.{Ground}
use Rattle.ap_border.specs.Files.{HasFiles}
use Rattle.ap_border.specs.SlowUnits.{HasSlowUnit}
use Rattle.ap_border.specs.Storages.{IsOff}
use Rattle.ap_data.specs.Stage.{IsStageOf}
use Rattle.ap_data.specs.Units.{JoinsUnit}
use Rattle.ap_whole.specs.Effects.{HasTransfer, HasWrites, LeavesStage}
use Rattle.ap_whole.specs.Handed.{course_value}
use Rattle.ap_whole.specs.Whole.{IsProcessor}
use Rattle.ap_bank.specs.declared.regs.RegWrite.{RegWrite}
use Rattle.ap_bank.specs.Border.{BanksRegs}
use Rattle.ap_bank.specs.FileBorder.{BanksFiles}
use Rattle.ap_front.specs.declared.fetch.Fetching.{Fetching}
use Rattle.ap_front.specs.declared.registers.Registers.{Registers}
use Rattle.ap_front.specs.Driven.{GivesFlights, at_stage, no_registers}
use Rattle.ap_built.specs.FileReads.{JoinsReads}
use Rattle.ap_built.specs.Front.{IsFrontBuilt, kept_in}

-- the border's files are those that were banked, joined to these nets
abbrev pub JoinsBanks : (design : Design) (d : Draft) (modules : List ModuleText) → BanksFiles design d modules → HasFiles design d modules → Type 0
JoinsBanks design d modules banks files = (file : ℕ) (f : File) (at : slice_get design.files file ≡ Some f) → JoinsReads design d modules banks files file f at

-- The pieces of a top, each as its own crate says of it: the front, registers and files, units of several cycles, the data of the stages over
-- the stages' registers, and what their lines write, take and leave, by the values of nets.
pub record IsTopBuilt (design : Design) (cards : List Card) (d : Draft) (modules : List ModuleText) : Type 0 where
  pub table : SlotTable
  pub r : Registers
  pub comings : List Coming
  pub f : Fetching
  pub given : ControlGiven
  pub nets : ControlNets
  pub front : IsFrontBuilt design d modules table r comings f given nets
  pub registers : List Wire
  pub writes : List (Option RegWrite)
  pub regs : BanksRegs design d registers writes
  pub idle : (p : WritePort) → is_used design p ≡ false → IsOff d (enable_name design p)
  pub top : d.name ≡ codes "top"
  pub banks : BanksFiles design d modules
  pub slow : (stage unit : ℕ) → is_slow_unit_of design stage unit ≡ true → HasSlowUnit design d modules given nets stage unit
  pub carded : (stage unit : ℕ) (is : is_slow_unit_of design stage unit ≡ true) → slice_get cards ((slow stage unit is).resource).kind ≡ Some (slow stage unit is).card
  -- the modules of units that take one cycle, by the numbers that ports have of them
  pub parts : List ModuleText
  pub base : ℕ → Ground
  pub courses : ℕ → List Course
  pub nodes : ℕ → List Node
  pub words : (stage : ℕ) → 1 ≤ stage → stage ≤ design.stages - 1 → (base stage).word ≡ (at_stage no_registers r.stages stage).word
  pub places : (stage : ℕ) → 1 ≤ stage → stage ≤ design.stages - 1 → (base stage).place ≡ (at_stage no_registers r.stages stage).place
  pub stages : (files : HasFiles design d modules) → JoinsBanks design d modules banks files → (stage : ℕ) → 1 ≤ stage → stage ≤ design.stages - 1
      → IsStageOf design cards d modules files parts (kept_in design table.stages) stage (base stage) (courses stage) (nodes stage)
  pub joins : (stage unit : ℕ) (is : is_slow_unit_of design stage unit ≡ true) (place : ℕ) (x : SlowUnit) → slice_get (nodes stage) place ≡ Some (node.Slow x) → x.port ≡ unit → JoinsUnit d modules (slow stage unit is).k x
  pub written : (stage : ℕ) (p : WritePort) → 1 ≤ stage → stage ≤ design.stages - 1 → is_used_in design stage p ≡ true → HasWrites design d modules given nets (base stage).word (course_value (base stage) (courses stage)) stage p
  pub transfer : HasTransfer design d modules given nets (base design.branch).word f.target (course_value (base design.branch) (courses design.branch))
  pub leaves : (gives : GivesFlights design d table.stages r comings) (stage : ℕ) → 1 ≤ stage → stage + 1 ≤ design.stages - 1
      → LeavesStage design d modules (kept_in design table.stages) gives.has (base stage).word (course_value (base stage) (courses stage)) stage

-- Such a top is a whole processor.
abbrev pub TopsAreProcessors : Type 0
TopsAreProcessors = (design : Design) (cards : List Card) (d : Draft) (modules : List ModuleText) → FitsCards design cards → IsTopBuilt design cards d modules → IsProcessor design cards d modules
