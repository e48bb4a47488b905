-- Values that fit their widths: those of locals, of storages, and of all that a line looks at.
use Rattle.std.specs.List.{AllByRecursion as Each}
use Rattle.std.specs.Prelude.{ℕ, ◌+◌, ◌-◌, ◌==◌, ◌++◌, if◌then◌else◌, IfSome, option_to_list, ◌<◌, ◌^◌, ◌≡◌, nat_lt, ◌≤◌, IsTrue, [], ◌∷◌, List, length, filter, filter_map, Option, Some, slice_index, unwrap_or}
use Rattle.ap_model.specs.Runnable.{IsRunnable, NeverFall, NoneInZero}
use Rattle.ap_desc.specs.Designs.{IsInstr, local_width, width_at, fields_of}
use Rattle.ap_desc.specs.Sound.{are_lines_typed}
use Rattle.ap_desc.specs.Widths.{reg_width, file_width, mem_width}
use Rattle.ap_desc.specs.declared.design.Design.{Design}
use Rattle.ap_desc.specs.declared.design.InPort.{InPort}
use Rattle.ap_desc.specs.declared.design.Act.{Act}
use Rattle.ap_desc.specs.declared.design.Instr.{Instr}
use Rattle.ap_desc.specs.declared.design.Micro.{Micro}
use Rattle.ap_model.specs.declared.state.StageEffect.{StageEffect}
use Rattle.ap_model.specs.declared.state.Entry.{Entry}
use Rattle.ap_model.specs.declared.state.Flight.{Flight}
use Rattle.ap_model.specs.declared.state.State.{State}
use Rattle.ap_model.specs.declared.storage.PortWrite.{PortWrite}
use Rattle.ap_model.specs.declared.storage.WritePort.{WritePort}
use Rattle.ap_model.specs.declared.storage.WritePort.TheVariants as port
use Rattle.ap_model.specs.declared.storage.Storages.{Storages}
use Rattle.ap_model.specs.Fire.{Sight, act_value, arg_value, instr_of}
use Rattle.ap_model.specs.Stored.{reg_value, file_cell_value, word_value}

-- each local fits its width, and one that isn't there yet is 0
abbrev pub LocalsFit : List ℕ → List ℕ → Type 0
LocalsFit widths locals = (i : ℕ) → slice_index locals i < 2 ^ width_at (λ w. w) widths i

-- registers, cells and words fit their widths
pub record StoragesFit (design : Design) (storages : Storages) : Type 0 where
  pub regs : (reg : ℕ) → reg_value storages reg < 2 ^ reg_width design reg
  pub cells : (file index : ℕ) → file_cell_value storages file index < 2 ^ file_width design file
  pub words : (mem address : ℕ) → word_value storages mem address < 2 ^ mem_width design mem

-- the width of an input port
abbrev pub input_width : Design → ℕ → ℕ
input_width design input = width_at (λ (p : InPort). p.width) design.inputs input

-- all that a line looks at fits, locals aside
pub record SightFits (sight : Sight) : Type 0 where
  pub design : IsRunnable sight.design sight.cards
  pub word : sight.word < 2 ^ 64
  pub place : sight.place < 2 ^ sight.design.address
  pub storages : StoragesFit sight.design sight.storages
  pub inputs : (line input : ℕ) → sight.input line input < 2 ^ input_width sight.design input

-- the width of the local that a line assigns, and 0 where it assigns none
abbrev pub width_of_act : Sight → Act → ℕ
width_of_act sight a = unwrap_or (local_width sight.design sight.instr.locals (fields_of sight.design sight.instr) a) 0

-- what a line of an instruction assigns, by its width
abbrev pub assigned_width : Design → Instr → Micro → Option ℕ
assigned_width design instr micro = local_width design instr.locals (fields_of design instr) micro.act

-- how many locals these lines assign
abbrev pub assigned_by : Design → Instr → List Micro → ℕ
assigned_by design instr micros = length (filter_map (assigned_width design instr) micros)

-- the lines of earlier stages
abbrev pub lines_before : ℕ → Instr → List Micro
lines_before stage instr = filter (λ (m : Micro). nat_lt m.stage stage) instr.micros

-- the locals of an instruction that comes to a stage: those of the earlier stages are there, and they fit
pub record LocalsStand (design : Design) (instr : Instr) (stage : ℕ) (locals : List ℕ) : Type 0 where
  pub fit : LocalsFit instr.locals locals
  pub count : length locals ≡ assigned_by design instr (lines_before stage instr)

-- the locals stand, of a word that matches an instruction
abbrev pub WordStands : Design → ℕ → ℕ → List ℕ → Type 0
WordStands design word stage locals = (instr : Instr) → instr_of design word ≡ Some instr → LocalsStand design instr stage locals

-- the locals after one line, where the lines of a stage are gone through
abbrev pub locals_after_line : Sight → ℕ → List ℕ → Micro → List ℕ
locals_after_line sight stage locals m = if m.stage == stage then locals ++ option_to_list (act_value sight (arg_value sight locals) m.line m.act) else locals

-- the locals went on by one line, and what that line assigned fits
pub record GoesByLine (sight : Sight) (stage : ℕ) (micro : Micro) (old new : List ℕ) : Type 0 where
  pub value : new ≡ locals_after_line sight stage old micro
  pub fits : IfSome (act_value sight (arg_value sight old) micro.line micro.act) (λ v. v < 2 ^ width_of_act sight micro.act)

-- the bits of what a port writes
abbrev pub port_width : Design → WritePort → ℕ
port_width design (port.Register reg) = reg_width design reg
port_width design (port.Cell file number) = file_width design file
port_width design (port.Memory mem) = mem_width design mem

-- each write fits what it writes to
abbrev pub WritesFit : Design → List PortWrite → Type 0
WritesFit design writes = Each (λ (w : PortWrite). w.value < 2 ^ port_width design w.port) writes

-- each logged write fits what it writes to
abbrev pub EntriesFit : Design → List Entry → Type 0
EntriesFit design entries = Each (λ (e : Entry). e.write.value < 2 ^ port_width design e.write.port) entries

-- what a word's instruction did in a stage: its locals stand for the next stage, its target is an address, and its writes fit
pub record EffectFits (design : Design) (word stage : ℕ) (effect : StageEffect) : Type 0 where
  pub locals : WordStands design word (stage + 1) effect.locals
  pub target : IfSome effect.target (λ t. t < 2 ^ design.address)
  pub writes : WritesFit design effect.writes

-- a flight in a stage: its word and its place fit, and its locals stand
pub record FlightFits (design : Design) (stage : ℕ) (flight : Flight) : Type 0 where
  pub word : flight.word < 2 ^ 64
  pub place : flight.place < 2 ^ design.address
  pub locals : WordStands design flight.word stage flight.locals

-- the values of the input ports fit
abbrev pub PortsFit : Design → List ℕ → Type 0
PortsFit design ports = (input : ℕ) → slice_index ports input < 2 ^ input_width design input

-- an instruction of a design that can be run
pub record IsGood (design : Design) (instr : Instr) : Type 0 where
  pub right : IsInstr design (fields_of design instr) instr
  pub typed : IsTrue (are_lines_typed design instr (fields_of design instr))
  pub order : NeverFall instr.micros
  pub later : NoneInZero instr.micros

-- each flight has waited for fewer cycles than this
abbrev pub WaitsWithin : ℕ → List (Option Flight) → Type 0
WaitsWithin limit flights = Each (λ (o : Option Flight). IfSome o (λ (f : Flight). f.waited < limit)) flights

-- the flights from a stage on fit
abbrev pub FlightsFit : Design → ℕ → List (Option Flight) → Type 0
FlightsFit design stage [] = Unit {0}
FlightsFit design stage (flight ∷ flights) = IfSome flight (FlightFits design stage) × FlightsFit design (stage + 1) flights

-- a state fits: its pc is an address, its storages and its flights fit, and there is a place for each stage from 1 on
pub record StateFits (design : Design) (state : State) : Type 0 where
  pub pc : state.pc < 2 ^ design.address
  pub storages : StoragesFit design state.storages
  pub flights : FlightsFit design 1 state.flights
  pub count : length state.flights ≡ design.stages - 1

-- the numbers of flights and the cycles that they have waited are within a limit, and so is the next number
pub record CountsWithin (limit : ℕ) (state : State) : Type 0 where
  pub numbers : Each (λ (o : Option Flight). IfSome o (λ (f : Flight). f.number ≤ limit)) state.flights
  pub waits : WaitsWithin (limit + 1) state.flights
  pub next : state.next ≤ limit
