-- What the ports and the lines of a stage show, in a reading in which the condition of one instruction alone is 1.
use Rattle.std.specs.Prelude.{◌≡◌, ℕ, ◌<◌, List, Some, length, slice_get}
use Rattle.std.specs.List.{AllByRecursion as Each}
use Rattle.ap_bits.specs.Cards.{operation_value}
use Rattle.ap_bits.specs.declared.card.Card.{Card}
use Rattle.ap_desc.specs.declared.design.Arg.{Arg}
use Rattle.ap_desc.specs.declared.design.Arg.TheVariants as arg
use Rattle.ap_net.specs.Draft.{Draft}
use Rattle.ap_net.specs.Modules.{ModuleText, module_named}
use Rattle.ap_net.specs.Readings.{IsSettled, Reading}
use Rattle.ap_unit.specs.Units.{Computes}
use Rattle.ap_stage.specs.declared.chain.Node.{Node}
use Rattle.ap_stage.specs.declared.chain.Node.TheVariants as node
use Rattle.ap_stage.specs.declared.node.Course.{Course}
use Rattle.ap_stage.specs.declared.node.PortUse.{PortUse}
use Rattle.ap_stage.specs.declared.row.Line.{Line}
use Rattle.ap_stage.specs.declared.serve.QuickUnit.{QuickUnit}
use Rattle.ap_stage.specs.declared.serve.ReadPort.{ReadPort}
use Rattle.ap_stage.specs.declared.serve.SlowUnit.{SlowUnit}
use Rattle.ap_stage.specs.declared.source.Ground.{Ground}
use Rattle.ap_stage.specs.declared.user.Part.TheVariants as part
use Rattle.ap_stage.specs.Chained.{IsFull, IsServedNode, IsWhole}
use Rattle.ap_stage.specs.Courses.{IsCourse, part_value}
use Rattle.ap_stage.specs.Served.{port_of}
use Rattle.ap_stage.specs.Sources.{line_value, value_of}

-- the condition of the instruction at this place is 1, and no other's
pub record IsOnlyCourse (r : Reading) (courses : List Course) (place : ℕ) : Type 0 where
  pub on : (c : Course) → slice_get courses place ≡ Some c → r.read c.cond.number ≡ 1
  pub alone : (other : ℕ) (c : Course) → slice_get courses other ≡ Some c → r.read c.cond.number ≡ 1 → other ≡ place

-- the value of an operand of an instruction
abbrev pub course_value : Reading → Ground → Course → Arg → ℕ
course_value r ground c a = value_of r ground c.scope c.row.items a

-- in every netlist whose module of the unit computes by a card, the line's local has the value of the operation on the line's operands
abbrev pub ShowsResult : Reading → Ground → List ModuleText → Course → PortUse → QuickUnit → Type 0
ShowsResult r ground modules c u q = (m whole : ModuleText) (card : Card) → slice_get modules q.module ≡ Some m → module_named r.modules m.name ≡ Some whole → Computes whole card q.width → part_value r ground (c, u) part.Operation < length card.ops
    → course_value r ground c (arg.Local u.local) ≡ operation_value card q.width (part_value r ground (c, u) part.Operation) (part_value r ground (c, u) part.First) (part_value r ground (c, u) part.Second)

-- the unit is asked what the line asks, and the line's local has its result
pub record ShowsAsked (r : Reading) (ground : Ground) (c : Course) (u : PortUse) (s : SlowUnit) : Type 0 where
  pub sel : r.read (s.sel).number ≡ part_value r ground (c, u) part.Operation
  pub a : r.read (s.a).number ≡ part_value r ground (c, u) part.First
  pub b : r.read (s.b).number ≡ part_value r ground (c, u) part.Second
  pub result : course_value r ground c (arg.Local u.local) ≡ r.read (s.y).number

-- the index is the line's, and the line's local has what is read
pub record ShowsRead (r : Reading) (ground : Ground) (c : Course) (u : PortUse) (p : ReadPort) : Type 0 where
  pub index : r.read (p.index).number ≡ part_value r ground (c, u) part.First
  pub result : course_value r ground c (arg.Local u.local) ≡ r.read (p.value).number

abbrev pub ShowsUse : Reading → Ground → List ModuleText → Course → PortUse → Node → Type 0
ShowsUse r ground modules c u (node.Quick q) = ShowsResult r ground modules c u q
ShowsUse r ground modules c u (node.Slow s) = ShowsAsked r ground c u s
ShowsUse r ground modules c u (node.Read p) = ShowsRead r ground c u p

-- A port that serves shows the use of it by the one instruction whose condition is 1.
abbrev pub PortsAreShown : Type 0
PortsAreShown = (d : Draft) (ground : Ground) (modules : List ModuleText) (courses : List Course) (n : Node) (r : Reading) → Each IsWhole courses → IsServedNode d ground modules courses n → IsSettled d r
    → (place : ℕ) (c : Course) → slice_get courses place ≡ Some c → IsOnlyCourse r courses place → (k : ℕ) (u : PortUse) → slice_get c.uses k ≡ Some u → u.port ≡ port_of n → ShowsUse r ground modules c u n

-- The local of each line without a port has the value that the line gives, whatever conditions are 1.
abbrev pub LinesAreShown : Type 0
LinesAreShown = (d : Draft) (ground : Ground) (c : Course) (r : Reading) → IsCourse d ground c → IsFull c → IsSettled d r
    → (k : ℕ) (l : Line) → slice_get c.lines k ≡ Some l → line_value r ground c.scope c.row.items l.act ≡ Some (course_value r ground c (arg.Local l.local))
