-- The instructions of a stage as a design has them.
use Rattle.std.specs.Prelude.{◌≡◌, ℕ, ◌<◌, true, List, Some, length, map, slice_get}
use Rattle.std.specs.List.{AllByRecursion as Each}
use Rattle.ap_desc.specs.declared.design.Arg.{Arg}
use Rattle.ap_desc.specs.declared.design.Arg.TheVariants as arg
use Rattle.ap_desc.specs.declared.design.Design.{Design}
use Rattle.ap_desc.specs.declared.design.InPort.{InPort as Input}
use Rattle.ap_desc.specs.declared.design.Instr.{Instr}
use Rattle.ap_desc.specs.declared.design.Node.{Node}
use Rattle.ap_desc.specs.declared.design.Reg.{Reg}
use Rattle.ap_model.specs.FlightLocals.{is_live_in}
use Rattle.ap_net.specs.declared.cell.Wire.{Wire}
use Rattle.ap_ports.specs.Numbers.{number_of_node}
use Rattle.ap_stage.specs.declared.node.Course.{Course}
use Rattle.ap_stage.specs.declared.node.PortUse.{PortUse}
use Rattle.ap_stage.specs.declared.source.Ground.{Ground}
use Rattle.ap_stage.specs.declared.chain.Node.{Node as Port}
use Rattle.ap_stage.specs.Chained.{IsBefore, TakeFrom, TakesFrom, UsesOnly}
use Rattle.ap_stage.specs.Served.{port_of}
use Rattle.ap_stage.specs.Sources.{HasNet}
use Rattle.ap_stage.specs.Users.{args_of}
use Rattle.ap_course.specs.Lines.{lines_of, scope_of, uses_of}

-- the nets of the stage have the widths of the design: a code word, addresses, and each register and input port
pub record IsGroundOf (design : Design) (ground : Ground) : Type 0 where
  pub word : ground.word.width ≡ design.word
  pub place : ground.place.width ≡ design.address
  pub link : ground.link.width ≡ design.address
  pub regs : map (λ (w : Wire). w.width) ground.regs ≡ map (λ (r : Reg). r.width) design.regs
  pub inputs : map (λ (w : Wire). w.width) ground.inputs ≡ map (λ (p : Input). p.width) design.inputs

-- the instruction as it stands in a stage: it may name its fields and locals, and its lines are those of the stage that make locals
pub record IsCourseOf (design : Design) (stage : ℕ) (instr : Instr) (c : Course) : Type 0 where
  pub scope : c.scope ≡ scope_of design instr
  pub lines : c.lines ≡ lines_of stage instr
  pub uses : c.uses ≡ uses_of stage instr

-- each local that is live into the stage has its net
abbrev pub HasLive : Design → ℕ → Instr → Course → Type 0
HasLive design stage instr c = (i : ℕ) → is_live_in design stage i instr ≡ true → HasNet c.row.items (arg.Local i)

-- the node of this number stands at the place
abbrev pub HasNumber : List Node → ℕ → ℕ → Type 0
HasNumber order place number = (n : Node) × (slice_get order place ≡ Some n) × (number_of_node n ≡ number)

-- The node of a line's port stands in the order at one place alone, and each node that an operand of the line takes from stands before it.
pub record StandsAt (order : List Node) (c : Course) (u : PortUse) : Type 0 where
  pub place : ℕ
  pub at : HasNumber order place u.port
  pub once : (other : ℕ) → HasNumber order other u.port → other ≡ place
  pub before : Each (λ (a : Arg). (from : ℕ) → TakesFrom c from a → (j : ℕ) × (j < place) × HasNumber order j from) (args_of u.asked)

-- the ports have the numbers of the nodes at their places
pub record AreNodesOf (order : List Node) (nodes : List Port) : Type 0 where
  pub long : length nodes ≡ length order
  pub numbers_are : (j : ℕ) (x : Node) (n : Port) → slice_get order j ≡ Some x → slice_get nodes j ≡ Some n → port_of n ≡ number_of_node x

-- each is as the instruction of its place stands in the stage
abbrev pub AreCoursesOf : Design → ℕ → List Course → Type 0
AreCoursesOf design stage courses = (k : ℕ) (c : Course) → slice_get courses k ≡ Some c → (instr : Instr) × (slice_get design.instrs k ≡ Some instr) × IsCourseOf design stage instr c

-- The ports of a stage stand in an order in which each instruction's operands come from ports before, and none stands twice. Each that an
-- instruction uses is there.
pub record AreOrdered (courses : List Course) (nodes : List Port) : Type 0 where
  pub only : Each (UsesOnly nodes) courses
  pub take : (place : ℕ) (n : Port) → slice_get nodes place ≡ Some n → TakeFrom (IsBefore nodes place) (port_of n) courses
  pub apart : (j k : ℕ) (one other : Port) → slice_get nodes j ≡ Some one → slice_get nodes k ≡ Some other → port_of one ≡ port_of other → j ≡ k
