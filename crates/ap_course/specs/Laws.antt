-- What holds of the lines that an instruction has in a stage, where the design fits its cards.
use Rattle.std.specs.Prelude.{◌≡◌, ℕ, List, Some, length, slice_get}
use Rattle.std.specs.List.{AllByRecursion as Each}
use Rattle.ap_bits.specs.declared.card.Card.{Card}
use Rattle.ap_desc.specs.Chains.{IsChainOrder, operands_of}
use Rattle.ap_desc.specs.Clean.{FitsCards}
use Rattle.ap_desc.specs.declared.design.Design.{Design}
use Rattle.ap_desc.specs.declared.design.Instr.{Instr}
use Rattle.ap_desc.specs.declared.design.Micro.{Micro}
use Rattle.ap_desc.specs.declared.design.Node.{Node}
use Rattle.ap_net.specs.declared.cell.Wire.{Wire}
use Rattle.ap_net.specs.declared.net.ModuleNet.{ModuleNet}
use Rattle.ap_pipe.specs.Slots.{AreHomes}
use Rattle.ap_pipe.specs.declared.table.Home.{Home}
use Rattle.ap_stage.specs.declared.chain.Node.{Node as Port}
use Rattle.ap_stage.specs.declared.node.Course.{Course}
use Rattle.ap_stage.specs.declared.node.PortUse.{PortUse}
use Rattle.ap_stage.specs.declared.source.Ground.{Ground}
use Rattle.ap_stage.specs.Chained.{HasOrigin, IsWhole}
use Rattle.ap_stage.specs.Courses.{AreUses}
use Rattle.ap_stage.specs.Rows.{AreLines}
use Rattle.ap_stage.specs.Sources.{LieIn}
use Rattle.ap_course.specs.Homes.{AreSlots, AreStored, stored_of}
use Rattle.ap_course.specs.Instrs.{AreCoursesOf, AreNodesOf, AreOrdered, HasLive, IsCourseOf, IsGroundOf, StandsAt}
use Rattle.ap_course.specs.Lines.{lines_of, scope_of}

-- the fields lie within a code word
abbrev pub FieldsLie : Type 0
FieldsLie = (design : Design) (cards : List Card) (k : ℕ) (instr : Instr) → FitsCards design cards → slice_get design.instrs k ≡ Some instr → LieIn design.word (scope_of design instr)

-- the lines without a port can be made in their order: what they name is there, with the widths that they ask for, and none looks at a
-- local of its own or of a later one
abbrev pub LinesCanBeMade : Type 0
LinesCanBeMade = (design : Design) (cards : List Card) (stage k : ℕ) (instr : Instr) (ground : Ground) → FitsCards design cards → slice_get design.instrs k ≡ Some instr → IsGroundOf design ground
    → AreLines ground (scope_of design instr) (lines_of stage instr)

-- the lines that use ports name what is there, and make locals of their own
abbrev pub UsesAreApart : Type 0
UsesAreApart = (design : Design) (cards : List Card) (stage k : ℕ) (instr : Instr) (c : Course) → FitsCards design cards → slice_get design.instrs k ≡ Some instr → IsCourseOf design stage instr c → AreUses c

-- where the live locals have their nets, each operand comes from somewhere, and no two lines use one port
abbrev pub InstrsAreWhole : Type 0
InstrsAreWhole = (design : Design) (cards : List Card) (stage k : ℕ) (instr : Instr) (c : Course) → FitsCards design cards → slice_get design.instrs k ≡ Some instr → IsCourseOf design stage instr c → HasLive design stage instr c
    → IsWhole c

-- where each live local of the stage has its home, the locals of an instruction stand in its slots
abbrev pub LocalsStand : Type 0
LocalsStand = (design : Design) (cards : List Card) (nets : List ModuleNet) (stage k : ℕ) (instr : Instr) (widths : List ℕ) (homes : List Home) (slots : List Wire) → FitsCards design cards → slice_get design.instrs k ≡ Some instr
    → AreHomes design stage widths homes → AreSlots nets widths slots → AreStored design nets stage instr (stored_of homes slots k (length instr.locals))

-- What the operands of a line take from ports, by wiring, comes earlier in the order of the stage's nodes: a port that a line uses stands at
-- a place of the order, and so do those that it takes from, before it.
abbrev pub PortsAreInOrder : Type 0
PortsAreInOrder = (design : Design) (cards : List Card) (stage k : ℕ) (instr : Instr) (c : Course) (order : List Node) → FitsCards design cards → slice_get design.instrs k ≡ Some instr → IsCourseOf design stage instr c → IsChainOrder design stage order
    → (j : ℕ) (u : PortUse) → slice_get c.uses j ≡ Some u → StandsAt order c u

-- the design fits the cards of some shelf
abbrev pub FitsSome : Design → Type 0
FitsSome design = (cards : List Card) × FitsCards design cards

-- the ports of a stage's nodes stand in such an order where the nodes stand in a chain order
abbrev pub NodesAreOrdered : Type 0
NodesAreOrdered = (design : Design) (cards : List Card) (stage : ℕ) (courses : List Course) (order : List Node) (nodes : List Port) → FitsCards design cards → AreCoursesOf design stage courses → IsChainOrder design stage order → AreNodesOf order nodes
    → AreOrdered courses nodes

-- where the live locals have their nets, each operand of any line of the stage comes from somewhere, also of one that writes or transfers
abbrev pub OperandsHaveOrigins : Type 0
OperandsHaveOrigins = (design : Design) (cards : List Card) (stage k : ℕ) (instr : Instr) (c : Course) (i : ℕ) (m : Micro) → FitsCards design cards → slice_get design.instrs k ≡ Some instr → IsCourseOf design stage instr c → HasLive design stage instr c
    → slice_get instr.micros i ≡ Some m → m.stage ≡ stage → Each (HasOrigin c) (operands_of m.act)
