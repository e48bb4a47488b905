-- What the instructions of a stage hand to write ports, to the pc and to the slots of the next stage, by the nets of their locals.
use Rattle.std.specs.Prelude.{◌≡◌, ℕ, List, length, slice_get, IfSome, Option, None, Some}
use Rattle.std.specs.List.{AllByRecursion as Each}
use Rattle.ap_desc.specs.Designs.{IsArg}
use Rattle.ap_desc.specs.declared.design.Arg.{Arg}
use Rattle.ap_net.specs.declared.cell.Wire.{Wire}
use Rattle.ap_net.specs.Draft.{Draft}
use Rattle.ap_net.specs.Pending.{IsFrom}
use Rattle.ap_ctl.specs.Lists.{EachPair}
use Rattle.ap_pipe.specs.declared.table.Home.{Home}
use Rattle.ap_flight.specs.declared.entry.Leaving.{Leaving}
use Rattle.ap_stage.specs.declared.node.Course.{Course}
use Rattle.ap_stage.specs.declared.source.Ground.{Ground}
use Rattle.ap_stage.specs.Sources.{HasNet, IsOperandNet}
use Rattle.ap_stage.specs.Trees.{IsShallow}
use Rattle.ap_effect.specs.declared.line.PortLine.{PortLine}
use Rattle.ap_effect.specs.declared.write.Writer.{Writer}
use Rattle.ap_effect.specs.Writers.{writing_numbers}

-- the operand is one of the instruction, and has its net
pub record CanName (c : Course) (a : Arg) : Type 0 where
  pub arg : IsArg (length c.scope.widths) c.scope.fields a
  pub net : HasNet c.row.items a

-- all operands that a line hands in have nets
pub record CanHandIn (c : Course) (line : PortLine) : Type 0 where
  pub guard : IfSome line.guard (CanName c)
  pub index : IfSome line.index (CanName c)
  pub value : CanName c line.value

-- the instruction of the line is there, with nets for what it hands in
pub record HasCourse (courses : List Course) (line : PortLine) : Type 0 where
  pub course : Course
  pub at : slice_get courses line.instr ≡ Some course
  pub can : CanHandIn course line

-- the net of an operand of the instruction, where there is one
abbrev pub IsNetOf : Draft → Ground → Course → Option Arg → Option Wire → Type 0
IsNetOf d ground c None None = Unit {0}
IsNetOf d ground c (Some a) (Some w) = IsOperandNet d ground c.scope c.row.items a w
IsNetOf d ground c _ _ = ⊥

-- Under the instruction's condition, the nets of what its line hands in.
pub record IsWriterFor (d : Draft) (ground : Ground) (c : Course) (line : PortLine) (w : Writer) : Type 0 where
  pub cond : w.cond ≡ c.cond
  pub guard : IsNetOf d ground c line.guard w.guard
  pub index : IsNetOf d ground c line.index w.index
  pub value : IsOperandNet d ground c.scope c.row.items line.value w.value

-- no `? :` stands before what is written, and where
pub record IsLowWriter (d : Draft) (w : Writer) : Type 0 where
  pub index : IfSome w.index (λ (i : Wire). IsShallow d 0 i.number)
  pub value : IsShallow d 0 w.value.number

-- the writer of a line, by the course of the line's instruction
pub record IsLineWriter (d : Draft) (ground : Ground) (courses : List Course) (line : PortLine) (w : Writer) : Type 0 where
  pub course : Course
  pub at : slice_get courses line.instr ≡ Some course
  pub writer : IsWriterFor d ground course line w

-- the writers of these lines, in their order
pub record AreLineWriters (d : Draft) (ground : Ground) (courses : List Course) (lines : List PortLine) (writers : List Writer) : Type 0 where
  pub each : EachPair (IsLineWriter d ground courses) lines writers
  pub low : Each (IsLowWriter d) writers

-- each net of these writers is one of those, or came
abbrev pub AreWritersFrom : List ℕ → Draft → Draft → List Writer → Type 0
AreWritersFrom from old new writers = Each (IsFrom from old new) (writing_numbers writers)

-- a local that stands in a slot of the next stage has its net
pub record CanLeave (courses : List Course) (home : Home) : Type 0 where
  pub course : Course
  pub at : slice_get courses home.instr ≡ Some course
  pub net : Wire
  pub has : slice_get course.row.items home.local ≡ Some (Some net)

-- what is left to a home: its local's net, under the condition of its instruction
pub record IsLeavingOf (courses : List Course) (home : Home) (l : Leaving) : Type 0 where
  pub course : Course
  pub at : slice_get courses home.instr ≡ Some course
  pub cond : l.cond ≡ course.cond
  pub has : slice_get course.row.items home.local ≡ Some (Some l.net)
