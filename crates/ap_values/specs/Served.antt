-- The instructions of a stage: as they were started in one draft and served in another, in a draft to which both have gone on.
use Rattle.std.specs.Prelude.{◌≡◌, ℕ, ◌+◌, ◌-◌, ◌≤◌, true, List, slice_get, Some}
use Rattle.std.specs.List.{AllByRecursion as Each}
use Rattle.ap_bits.specs.declared.card.Card.{Card}
use Rattle.ap_desc.specs.Clean.{IsClean}
use Rattle.ap_desc.specs.declared.design.Design.{Design}
use Rattle.ap_desc.specs.declared.design.InPort.{InPort as Input}
use Rattle.ap_desc.specs.declared.design.Instr.{Instr}
use Rattle.ap_desc.specs.declared.design.Node.{Node as DesignNode}
use Rattle.ap_desc.specs.declared.design.Reg.{Reg}
use Rattle.ap_model.specs.FlightLocals.{is_live_in}
use Rattle.ap_net.specs.declared.cell.Wire.{Wire}
use Rattle.ap_net.specs.Cells.{IsNet}
use Rattle.ap_net.specs.Draft.{Draft, Extends}
use Rattle.ap_net.specs.Modules.{ModuleText}
use Rattle.ap_net.specs.Outside.{input_name}
use Rattle.ap_ports.specs.Numbers.{IsNumberedNode, number_of_node}
use Rattle.ap_signals.specs.NetRuns.{reg_name, slot_name}
use Rattle.ap_ctl.specs.Nets.{AreDecoded}
use Rattle.ap_pipe.specs.declared.table.Home.{Home}
use Rattle.ap_stage.specs.declared.chain.Node.{Node}
use Rattle.ap_stage.specs.declared.node.Course.{Course}
use Rattle.ap_stage.specs.declared.source.Ground.{Ground}
use Rattle.ap_stage.specs.Chained.{IsFull, IsServedNode, UsesOnly}
use Rattle.ap_stage.specs.Courses.{AreSame, IsCourse}
use Rattle.ap_stage.specs.Served.{port_of}
use Rattle.ap_course.specs.Instrs.{IsGroundOf}
use Rattle.ap_course.specs.Starts.{AreStarted}
use Rattle.ap_border.specs.Files.{HasFiles}
use Rattle.ap_border.specs.Flights.{HasFlights}
use Rattle.ap_border.specs.Named.{IsNamed, IsRegisterNamed}
use Rattle.ap_data.specs.Stage.{IsLinkNet, IsPortOf, IsStageOf}
use Rattle.ap_whole.specs.Homes.{home_of}

-- The nets on which the lines of a stage stand: they have the widths of the design; registers and inputs have their names.
pub record IsNamedGround (design : Design) (d : Draft) (stage : ℕ) (base : Ground) : Type 0 where
  pub nets : IsGroundOf design base
  pub word : IsNet d.nets base.word
  pub link : IsLinkNet design stage d base.place base.link
  pub regs : (reg : ℕ) (of : Reg) (w : Wire) → slice_get design.regs reg ≡ Some of → slice_get base.regs reg ≡ Some w → (from : Wire) × IsRegisterNamed d (reg_name of) of.reset w from
  pub inputs : (input : ℕ) (of : Input) (w : Wire) → slice_get design.inputs input ≡ Some of → slice_get base.inputs input ≡ Some w → IsNamed d (input_name (record { name = of.name; width = of.width })) w

-- The instructions of a stage were started in the draft `start`, and its ports served them in the draft `served`.
pub record IsServedStage (design : Design) (stage : ℕ) (base : Ground) (homes : List Home) (slots conds : List Wire) (old start served d : Draft) (units : List ModuleText) (first courses : List Course) (nodes : List Node) : Type 0 where
  pub started : AreStarted design stage base homes slots conds old start first
  pub between : Extends start served
  pub later : Extends served d
  pub are : Each (IsCourse served base) courses
  pub same : AreSame first courses
  pub full : Each IsFull courses
  pub only : Each (UsesOnly nodes) first
  pub ports : Each (IsServedNode served base units courses) nodes

-- the registers of the slots have the stage's names
abbrev pub AreNamedSlots : Draft → ℕ → List Wire → Type 0
AreNamedSlots d stage slots = (number : ℕ) (slot : Wire) → slice_get slots number ≡ Some slot → (from : Wire) × IsRegisterNamed d (slot_name stage number) 0 slot from

-- the slot of each live local is that of its first home
abbrev pub KeepsFirst : Design → ℕ → List Home → (ℕ → Instr → ℕ → ℕ) → Type 0
KeepsFirst design stage homes home = (k i : ℕ) (instr : Instr) → slice_get design.instrs k ≡ Some instr → is_live_in design stage i instr ≡ true → home stage instr i ≡ home_of design homes instr i

-- the ports are those of the design
abbrev pub ArePortsOf : (design : Design) → List Card → (d : Draft) (modules : List ModuleText) → HasFiles design d modules → List ModuleText → List Node → Type 0
ArePortsOf design cards d modules files units nodes = (place : ℕ) (x : DesignNode) (n : Node) → slice_get nodes place ≡ Some n → number_of_node x ≡ port_of n → IsNumberedNode x → IsPortOf design cards d modules files units x n

-- Where the nets, conditions and slots are what they are named for, and the ports are the design's, this is a stage of the design.
abbrev pub ServedStagesAreOf : Type 0
ServedStagesAreOf = (design : Design) (cards : List Card) (d : Draft) (modules : List ModuleText) (files : HasFiles design d modules) (units : List ModuleText) (home : ℕ → Instr → ℕ → ℕ) (stage : ℕ) (base : Ground) (homes : List Home) (slots conds : List Wire) (old start served : Draft)
    (first courses : List Course) (nodes : List Node) → IsClean design → IsNamedGround design d stage base → IsServedStage design stage base homes slots conds old start served d units first courses nodes
    → AreDecoded design d base.word conds → AreNamedSlots d stage slots → KeepsFirst design stage homes home → ArePortsOf design cards d modules files units nodes
    → IsStageOf design cards d modules files units home stage base courses nodes

-- The slots of a stage's flights have its names.
abbrev pub FlightsNameSlots : Type 0
FlightsNameSlots = (design : Design) (d : Draft) (flights : HasFlights design d) (before stage : ℕ) → before + 1 ≡ stage → stage ≤ design.stages - 1 → AreNamedSlots d stage (flights.registers stage).slots
