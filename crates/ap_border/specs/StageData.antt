-- The data of a stage's instructions in a finished draft: a value for each operand, by the nets of the draft, which meets the equation of
-- each line where the stage's word matches the instruction.
use Rattle.std.specs.Prelude.{◌≡◌, ℕ, ◌+◌, ◌-◌, ◌*◌, ◌/◌, ◌%◌, ◌^◌, ◌<◌, ◌≤◌, true, List, codes, slice_get, slice_index, Some}
use Rattle.std.specs.Option.{option_map_or}
use Rattle.ap_bits.specs.Operations.{sign_extended}
use Rattle.ap_bits.specs.declared.card.Card.{Card}
use Rattle.ap_desc.specs.Chains.{maker_in}
use Rattle.ap_desc.specs.Designs.{arg_width, field_value, fields_of}
use Rattle.ap_desc.specs.declared.design.Act.{Act}
use Rattle.ap_desc.specs.declared.design.Act.TheVariants as act
use Rattle.ap_desc.specs.declared.design.Arg.{Arg}
use Rattle.ap_desc.specs.declared.design.Arg.TheVariants as arg
use Rattle.ap_desc.specs.declared.design.Design.{Design}
use Rattle.ap_desc.specs.declared.design.Field.{Field}
use Rattle.ap_desc.specs.declared.design.InPort.{InPort as Input}
use Rattle.ap_desc.specs.declared.design.Instr.{Instr}
use Rattle.ap_desc.specs.declared.design.Mem.{Mem}
use Rattle.ap_desc.specs.declared.design.Micro.{Micro}
use Rattle.ap_desc.specs.declared.design.Reg.{Reg}
use Rattle.ap_desc.specs.declared.design.File.{File}
use Rattle.ap_image.specs.declared.image.Image.{Image}
use Rattle.ap_image.specs.declared.trace.Trace.{Trace}
use Rattle.ap_model.specs.declared.state.Flight.{Flight}
use Rattle.ap_model.specs.Cycles.{inputs_at}
use Rattle.ap_model.specs.Fire.{instr_of, is_match, link_of, unit_value}
use Rattle.ap_model.specs.FlightLocals.{is_live}
use Rattle.ap_model.specs.LineForms.{ReadsLines}
use Rattle.ap_model.specs.UnitUse.{is_quick}
use Rattle.ap_net.specs.declared.cell.Wire.{Wire}
use Rattle.ap_net.specs.Draft.{Draft}
use Rattle.ap_net.specs.Modules.{ModuleText}
use Rattle.ap_net.specs.Outside.{input_name, mem_name}
use Rattle.ap_net.specs.Readings.{IsSettled, Reading}
use Rattle.ap_cycle.specs.KeptStates.{HasFlight}
use Rattle.ap_signals.specs.DesignOutside.{mem_shape}
use Rattle.ap_signals.specs.NetRuns.{NetRun, reg_name, slot_name}
use Rattle.ap_signals.specs.NetSignals.{net_signals}
use Rattle.ap_store.specs.FilePorts.{read_index, read_value}
use Rattle.ap_border.specs.Files.{HasFiles}
use Rattle.ap_border.specs.Named.{IsNamed, IsRegisterNamed}
use Rattle.ap_border.specs.Processor.{RunsProcessor}

-- readings of the draft, over these modules, in which the word matches the instruction
pub record IsMatched (d : Draft) (modules : List ModuleText) (word : Wire) (instr : Instr) (r : Reading) : Type 0 where
  pub settled : IsSettled d r
  pub over : r.modules ≡ modules
  pub matches : is_match (r.read word.number) instr ≡ true

abbrev pub WhereMatched : Draft → List ModuleText → Wire → Instr → (Reading → Type 0) → Type 0
WhereMatched d modules word instr Fact = (r : Reading) → IsMatched d modules word instr r → Fact r

-- a local that is live into the stage: the low bits of its slot
pub record StandsInSlot (d : Draft) (modules : List ModuleText) (word : Wire) (instr : Instr) (name : List ℕ) (width : ℕ) (value : Reading → ℕ) : Type 0 where
  pub slot : Wire
  pub from : Wire
  pub named : IsRegisterNamed d name 0 slot from
  pub reads : WhereMatched d modules word instr (λ r. value r ≡ r.read slot.number % 2 ^ width)

-- a register's value, and an input's
pub record ReadsRegister (design : Design) (d : Draft) (modules : List ModuleText) (word : Wire) (instr : Instr) (reg : ℕ) (value : Reading → ℕ) : Type 0 where
  pub of : Reg
  pub at : slice_get design.regs reg ≡ Some of
  pub register : Wire
  pub from : Wire
  pub named : IsRegisterNamed d (reg_name of) of.reset register from
  pub reads : WhereMatched d modules word instr (λ r. value r ≡ r.read register.number)

pub record ReadsInput (design : Design) (d : Draft) (modules : List ModuleText) (word : Wire) (instr : Instr) (input : ℕ) (value : Reading → ℕ) : Type 0 where
  pub of : Input
  pub at : slice_get design.inputs input ≡ Some of
  pub net : Wire
  pub named : IsNamed d (input_name (record { name = of.name; width = of.width })) net
  pub reads : WhereMatched d modules word instr (λ r. value r ≡ r.read net.number)

-- what a memory answers at the address that it is asked
pub record ReadsMem (design : Design) (d : Draft) (modules : List ModuleText) (word : Wire) (instr : Instr) (mem : ℕ) (address value : Reading → ℕ) : Type 0 where
  pub of : Mem
  pub at : slice_get design.mems mem ≡ Some of
  pub asked : Wire
  pub asked_named : IsNamed d (mem_name (mem_shape of) (codes "ra")) asked
  pub asks : WhereMatched d modules word instr (λ r. r.read asked.number ≡ address r)
  pub net : Wire
  pub named : IsNamed d (mem_name (mem_shape of) (codes "rd")) net
  pub reads : WhereMatched d modules word instr (λ r. value r ≡ r.read net.number)

-- what a read port of a file shows at the index that it is given
pub record ReadsFile (design : Design) (d : Draft) (modules : List ModuleText) (files : HasFiles design d modules) (word : Wire) (instr : Instr) (file number : ℕ) (index value : Reading → ℕ) : Type 0 where
  pub of : File
  pub at : slice_get design.files file ≡ Some of
  pub within : number < of.reads
  pub asks : WhereMatched d modules word instr (λ r. r.parts (files.each file of at).k (read_index number) ≡ index r)
  pub reads : WhereMatched d modules word instr (λ r. value r ≡ r.parts (files.each file of at).k (read_value number))

-- What a line gives its local; one that makes no local gives nothing. A unit of several cycles is told apart: what it gives follows from what it was asked.
abbrev pub GivesLine : (design : Design) (cards : List Card) (d : Draft) (modules : List ModuleText) → HasFiles design d modules → Wire → Instr → (Reading → Arg → ℕ) → ℕ → Act → Type 0
GivesLine design cards d modules files word instr value n (act.Compute unit op a b) =
    is_quick design (act.Compute unit op a b) ≡ true → WhereMatched d modules word instr (λ r. value r (arg.Local n) ≡ unit_value design cards unit op (value r a) (value r b))
GivesLine design cards d modules files word instr value n (act.ReadFile file number index) = ReadsFile design d modules files word instr file number (λ r. value r index) (λ r. value r (arg.Local n))
GivesLine design cards d modules files word instr value n (act.ReadReg reg) = ReadsRegister design d modules word instr reg (λ r. value r (arg.Local n))
GivesLine design cards d modules files word instr value n (act.ReadMem mem at) = ReadsMem design d modules word instr mem (λ r. value r at) (λ r. value r (arg.Local n))
GivesLine design cards d modules files word instr value n (act.ReadIn input) = ReadsInput design d modules word instr input (λ r. value r (arg.Local n))
GivesLine design cards d modules files word instr value n (act.Const width number) = WhereMatched d modules word instr (λ r. value r (arg.Local n) ≡ number)
GivesLine design cards d modules files word instr value n (act.Zext width a) = WhereMatched d modules word instr (λ r. value r (arg.Local n) ≡ value r a)
GivesLine design cards d modules files word instr value n (act.Sext width a) =
    WhereMatched d modules word instr (λ r. value r (arg.Local n) ≡ sign_extended (value r a) (arg_width design instr.locals (fields_of design instr) a) width)
GivesLine design cards d modules files word instr value n (act.Slice high low a) = WhereMatched d modules word instr (λ r. value r (arg.Local n) ≡ (value r a / 2 ^ low) % 2 ^ (high - low + 1))
GivesLine design cards d modules files word instr value n (act.Cat a b) =
    WhereMatched d modules word instr (λ r. value r (arg.Local n) ≡ value r a * 2 ^ arg_width design instr.locals (fields_of design instr) b + value r b)
GivesLine design cards d modules files word instr value n _ = ⊥

-- An instruction in a stage: fields, address and link, the locals that come in slots, and those that its lines make in the stage.
pub record HasInstr (design : Design) (cards : List Card) (d : Draft) (modules : List ModuleText) (files : HasFiles design d modules) (home : ℕ → Instr → ℕ → ℕ) (stage : ℕ) (word place : Wire) (instr : Instr) : Type 0 where
  pub value : Reading → Arg → ℕ
  pub field : (i : ℕ) → WhereMatched d modules word instr (λ r. value r (arg.Field i) ≡ option_map_or (λ (f : Field). field_value f (r.read word.number)) (slice_get (fields_of design instr) i) 0)
  pub pc : WhereMatched d modules word instr (λ r. value r arg.Pc ≡ r.read place.number)
  pub link : WhereMatched d modules word instr (λ r. value r arg.Link ≡ link_of design (r.read place.number))
  pub old : (seen i : ℕ) → instr_of design seen ≡ Some instr → is_live design seen stage i ≡ true → StandsInSlot d modules word instr (slot_name stage (home stage instr i)) (slice_index instr.locals i) (λ r. value r (arg.Local i))
  pub new : (n : ℕ) (m : Micro) → maker_in instr stage (arg.Local n) ≡ Some m → GivesLine design cards d modules files word instr value n m.act

-- every instruction of the design has its data in the stage
abbrev pub HasInstrs : (design : Design) (cards : List Card) (image : Image) (trace : Trace) (run : NetRun) (c : ℕ) (reading : ℕ → Reading) → RunsProcessor design image trace run c reading → ℕ → Type 0
HasInstrs design cards image trace run c reading p stage = (k : ℕ) (instr : Instr) → slice_get design.instrs k ≡ Some instr
    → HasInstr design cards p.draft p.modules p.files run.home stage (p.flights.registers stage).word (p.flights.registers stage).place instr

-- In a cycle in which the stage has a flight of the instruction, these values meet the equations of its lines but those of units that
-- take several cycles.
abbrev pub InstrsAreRead : Type 0
InstrsAreRead = (design : Design) (cards : List Card) (image : Image) (trace : Trace) (run : NetRun) (c : ℕ) (reading : ℕ → Reading) → (p : RunsProcessor design image trace run c reading) → (stage : ℕ) → 1 ≤ stage → stage ≤ design.stages - 1
    → (instr : Instr) (h : HasInstr design cards p.draft p.modules p.files run.home stage (p.flights.registers stage).word (p.flights.registers stage).place instr)
    → (j : ℕ) → j < c → (flight : Flight) → HasFlight design (net_signals design run j) stage flight → instr_of design flight.word ≡ Some instr
    → ReadsLines design cards (inputs_at design trace j) (net_signals design run j).storages stage flight instr (is_quick design) ((net_signals design run j).local stage) (h.value (reading j))
