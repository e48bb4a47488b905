-- A stage whose ports serve the instructions of a design, and the data that it has by that.
use Rattle.std.specs.Prelude.{◌≡◌, ℕ, ◌%◌, ◌^◌, ◌<◌, ◌==◌, false, true, List, codes, length, slice_get, slice_index, nat_lt, Some}
use Rattle.std.specs.List.{AllByRecursion as Each}
use Rattle.ap_bits.specs.declared.card.Card.{Card}
use Rattle.ap_desc.specs.Clean.{FitsCards}
use Rattle.ap_desc.specs.declared.design.Arg.{Arg}
use Rattle.ap_desc.specs.declared.design.Arg.TheVariants as arg
use Rattle.ap_desc.specs.declared.design.Design.{Design}
use Rattle.ap_desc.specs.declared.design.File.{File}
use Rattle.ap_desc.specs.declared.design.InPort.{InPort as Input}
use Rattle.ap_desc.specs.declared.design.Instr.{Instr}
use Rattle.ap_desc.specs.declared.design.Mem.{Mem}
use Rattle.ap_desc.specs.declared.design.Node.{Node as DesignNode}
use Rattle.ap_desc.specs.declared.design.Node.TheVariants as design_node
use Rattle.ap_desc.specs.declared.design.Reg.{Reg}
use Rattle.ap_desc.specs.declared.design.Unit.{Unit as Resource}
use Rattle.ap_model.specs.Fire.{is_match, link_of}
use Rattle.ap_model.specs.FlightLocals.{is_live_in}
use Rattle.ap_model.specs.UnitUse.{latency_of}
use Rattle.ap_net.specs.declared.cell.Wire.{Wire}
use Rattle.ap_net.specs.Cells.{IsNet}
use Rattle.ap_net.specs.Draft.{Draft}
use Rattle.ap_net.specs.Modules.{ModuleText, module_named}
use Rattle.ap_net.specs.Outside.{input_name, mem_name}
use Rattle.ap_net.specs.Readings.{Always, Reading}
use Rattle.ap_ports.specs.Numbers.{IsNumberedNode, number_of_node}
use Rattle.ap_signals.specs.DesignOutside.{mem_shape}
use Rattle.ap_signals.specs.NetRuns.{reg_name, slot_name}
use Rattle.ap_store.specs.FilePorts.{read_index, read_value}
use Rattle.ap_unit.specs.Units.{Computes}
use Rattle.ap_stage.specs.declared.chain.Node.{Node}
use Rattle.ap_stage.specs.declared.chain.Node.TheVariants as node
use Rattle.ap_stage.specs.declared.node.Course.{Course}
use Rattle.ap_stage.specs.declared.serve.QuickUnit.{QuickUnit}
use Rattle.ap_stage.specs.declared.serve.ReadPort.{ReadPort}
use Rattle.ap_stage.specs.declared.source.Ground.{Ground}
use Rattle.ap_stage.specs.Chained.{IsFull, IsServedNode, IsWhole, UsesOnly}
use Rattle.ap_stage.specs.Courses.{IsCourse}
use Rattle.ap_stage.specs.Served.{port_of}
use Rattle.ap_stage.specs.Shown.{course_value}
use Rattle.ap_course.specs.Instrs.{IsCourseOf, IsGroundOf}
use Rattle.ap_course.specs.Links.{links}
use Rattle.ap_border.specs.Files.{HasFiles}
use Rattle.ap_border.specs.Named.{IsNamed, IsRegisterNamed}
use Rattle.ap_border.specs.StageData.{HasInstr}

-- where a line of the stage names the address after the word and its slots, the net is that address
abbrev pub IsLinkNet : Design → ℕ → Draft → Wire → Wire → Type 0
IsLinkNet design stage d place link = links design stage ≡ true → Always d (λ r. r.read link.number ≡ link_of design (r.read place.number))

-- The value of an operand of an instruction: by its net, but for the address after the word and its slots, which has a net only in stages
-- where a line names it.
abbrev pub data_value : Design → Reading → Ground → Course → Arg → ℕ
data_value design r ground c arg.Link = link_of design (r.read ground.place.number)
data_value design r ground c a = course_value r ground c a

-- a unit of one cycle: the netlist's module of its name computes by the card of the design's unit, at its width
pub record IsQuickOf (design : Design) (cards : List Card) (modules units : List ModuleText) (unit : ℕ) (q : QuickUnit) : Type 0 where
  pub m : ModuleText
  pub is_module : slice_get units q.module ≡ Some m
  pub whole : ModuleText
  pub found : module_named modules m.name ≡ Some whole
  pub resource : Resource
  pub at : slice_get design.units unit ≡ Some resource
  pub card : Card
  pub of_card : slice_get cards resource.kind ≡ Some card
  pub fast : nat_lt 1 (latency_of design unit) ≡ false
  pub width : q.width ≡ resource.width
  pub computes : Computes whole card q.width

-- a read port of a file: its wires are joined to the file's instance
pub record IsFileRead (design : Design) (d : Draft) (modules : List ModuleText) (files : HasFiles design d modules) (file number : ℕ) (p : ReadPort) : Type 0 where
  pub of : File
  pub at : slice_get design.files file ≡ Some of
  pub within : number < of.reads
  pub index : slice_get (files.each file of at).of.nets (read_index number) ≡ Some p.index
  pub value : slice_get (files.each file of at).of.nets (read_value number) ≡ Some p.value

-- the read of a memory: its wires are the ports of that
pub record IsMemRead (design : Design) (d : Draft) (mem : ℕ) (p : ReadPort) : Type 0 where
  pub of : Mem
  pub at : slice_get design.mems mem ≡ Some of
  pub index : IsNamed d (mem_name (mem_shape of) (codes "ra")) p.index
  pub value : IsNamed d (mem_name (mem_shape of) (codes "rd")) p.value

-- the stage's port is the node of the design; a unit of several cycles is one whose latency is more than 1
abbrev pub IsPortOf : (design : Design) → List Card → (d : Draft) (modules : List ModuleText) → HasFiles design d modules → List ModuleText → DesignNode → Node → Type 0
IsPortOf design cards d modules files units (design_node.Unit unit) (node.Quick q) = IsQuickOf design cards modules units unit q
IsPortOf design cards d modules files units (design_node.Unit unit) (node.Slow s) = nat_lt 1 (latency_of design unit) ≡ true
IsPortOf design cards d modules files units (design_node.FileRead file port) (node.Read p) = IsFileRead design d modules files file port p
IsPortOf design cards d modules files units (design_node.MemRead mem) (node.Read p) = IsMemRead design d mem p
IsPortOf design cards d modules files units _ _ = ⊥

-- what an instruction reads in the stage of what earlier stages left: each local that is live into the stage is the low bits of a register
pub record HasSlot (d : Draft) (ground : Ground) (c : Course) (name : List ℕ) (width i : ℕ) : Type 0 where
  pub slot : Wire
  pub from : Wire
  pub named : IsRegisterNamed d name 0 slot from
  pub reads : Always d (λ r. course_value r ground c (arg.Local i) ≡ r.read slot.number % 2 ^ width)

-- The instructions of the stage are those of the design, each with a net for each local that its lines make; each condition tells whether
-- the word matches its instruction; the nets of registers and inputs have their names; and the ports, which serve, are the design's.
pub record IsStageOf (design : Design) (cards : List Card) (d : Draft) (modules : List ModuleText) (files : HasFiles design d modules) (units : List ModuleText) (home : ℕ → Instr → ℕ → ℕ) (stage : ℕ) (base : Ground) (courses : List Course) (nodes : List Node) : Type 0 where
  pub nets : IsGroundOf design base
  pub word : IsNet d.nets base.word
  pub link : IsLinkNet design stage d base.place base.link
  pub regs : (reg : ℕ) (of : Reg) (w : Wire) → slice_get design.regs reg ≡ Some of → slice_get base.regs reg ≡ Some w → (from : Wire) × IsRegisterNamed d (reg_name of) of.reset w from
  pub inputs : (input : ℕ) (of : Input) (w : Wire) → slice_get design.inputs input ≡ Some of → slice_get base.inputs input ≡ Some w → IsNamed d (input_name (record { name = of.name; width = of.width })) w
  pub long : length courses ≡ length design.instrs
  pub of : (k : ℕ) (instr : Instr) (c : Course) → slice_get design.instrs k ≡ Some instr → slice_get courses k ≡ Some c → IsCourseOf design stage instr c
  pub conds : (k : ℕ) (instr : Instr) (c : Course) → slice_get design.instrs k ≡ Some instr → slice_get courses k ≡ Some c → Always d (λ r. (r.read c.cond.number == 1) ≡ is_match (r.read base.word.number) instr)
  pub slots : (k i : ℕ) (instr : Instr) (c : Course) → slice_get design.instrs k ≡ Some instr → slice_get courses k ≡ Some c → is_live_in design stage i instr ≡ true
      → HasSlot d base c (slot_name stage (home stage instr i)) (slice_index instr.locals i) i
  pub are : Each (IsCourse d base) courses
  pub whole : Each IsWhole courses
  pub full : Each IsFull courses
  pub only : Each (UsesOnly nodes) courses
  pub served : Each (IsServedNode d base units courses) nodes
  pub ports : (place : ℕ) (x : DesignNode) (n : Node) → slice_get nodes place ≡ Some n → number_of_node x ≡ port_of n → IsNumberedNode x → IsPortOf design cards d modules files units x n

-- Such a stage has the data of each instruction of the design, by these values of its operands.
abbrev pub StagesHaveData : Type 0
StagesHaveData = (design : Design) (cards : List Card) (d : Draft) (modules : List ModuleText) (files : HasFiles design d modules) (units : List ModuleText) (home : ℕ → Instr → ℕ → ℕ) (stage : ℕ) (base : Ground) (courses : List Course) (nodes : List Node)
    → FitsCards design cards → IsStageOf design cards d modules files units home stage base courses nodes → (k : ℕ) (instr : Instr) (c : Course) → slice_get design.instrs k ≡ Some instr → slice_get courses k ≡ Some c
    → (h : HasInstr design cards d modules files home stage base.word base.place instr) × (h.value ≡ (λ r a. data_value design r base c a))
