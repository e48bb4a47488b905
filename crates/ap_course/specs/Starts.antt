-- An instruction at the start of a stage: the locals that stand in slots have their nets, and those that lines without a port make of them.
use Rattle.std.specs.Prelude.{◌≡◌, ℕ, ◌<◌, true, List, ◌∷◌, ◌++◌, Option, Some, None, length, slice_get}
use Rattle.std.specs.List.{AllByRecursion as Each}
use Rattle.ap_desc.specs.declared.design.Design.{Design}
use Rattle.ap_desc.specs.declared.design.Instr.{Instr}
use Rattle.ap_model.specs.FlightLocals.{is_live_in}
use Rattle.ap_net.specs.declared.cell.Wire.{Wire}
use Rattle.ap_net.specs.declared.net.ModuleNet.{ModuleNet}
use Rattle.ap_net.specs.Cells.{IsNet}
use Rattle.ap_net.specs.Draft.{Draft}
use Rattle.ap_net.specs.Late.{Reads}
use Rattle.ap_net.specs.Making.{Makes}
use Rattle.ap_net.specs.Ready.{numbers}
use Rattle.ap_pipe.specs.declared.table.Home.{Home}
use Rattle.ap_stage.specs.declared.node.Course.{Course}
use Rattle.ap_stage.specs.declared.row.Line.{Line}
use Rattle.ap_stage.specs.declared.slot.Stored.{Stored}
use Rattle.ap_stage.specs.declared.source.Ground.{Ground}
use Rattle.ap_stage.specs.declared.source.Scope.{Scope}
use Rattle.ap_stage.specs.Chained.{IsWhole}
use Rattle.ap_stage.specs.Courses.{IsCourse, IsUnserved}
use Rattle.ap_stage.specs.Reads.{AreFrom}
use Rattle.ap_stage.specs.Rows.{AreClosed, AreMade, MakesNone}
use Rattle.ap_stage.specs.Slots.{HasStored, IsUnstored, slot_numbers}
use Rattle.ap_stage.specs.Sources.{IsRow, source_numbers}
use Rattle.ap_stage.specs.Trees.{IsShallow}
use Rattle.ap_course.specs.Homes.{IsHomed}
use Rattle.ap_course.specs.Instrs.{IsCourseOf}

-- the numbers of the nets of a stage, and of these
abbrev pub sources : Ground → List ℕ → List ℕ
sources ground more = ground.word.number ∷ ground.place.number ∷ ground.link.number ∷ (numbers ground.regs ++ (numbers ground.inputs ++ more))

-- the numbers of the nets of which an instruction's row is made at the start
abbrev pub start_numbers : Ground → List Stored → List ℕ
start_numbers ground stored = sources ground (slot_numbers stored)

-- The row at the start: its nets carry their locals, and as many locals have nets as can be had. What came reads the nets of the stage and
-- the slots alone, with no `? :` before it where none stands before these. No other local has a net.
pub record IsStartRow (old new : Draft) (ground : Ground) (scope : Scope) (lines : List Line) (stored : List Stored) (row : List (Option Wire)) : Type 0 where
  pub row_is : IsRow new.nets scope row
  pub made : AreMade new ground scope row lines
  pub closed : AreClosed row lines (length lines)
  pub has : (k : ℕ) (s : Stored) → slice_get stored k ≡ Some s → HasStored new scope row s
  pub others : (local : ℕ) → local < length scope.widths → IsUnstored stored local → MakesNone lines local → slice_get row local ≡ Some None
  pub from : AreFrom (start_numbers ground stored) old new (source_numbers ground row)
  pub low : Each (IsShallow old 0) (start_numbers ground stored) → Each (IsShallow new 0) (source_numbers ground row)
  pub makes : Makes old new

-- the local has the low bits of the slot of its home
pub record HasLocal (d : Draft) (homes : List Home) (slots : List Wire) (number : ℕ) (c : Course) (i : ℕ) : Type 0 where
  pub stored : Stored
  pub local : stored.local ≡ i
  pub home : IsHomed homes slots number i stored
  pub has : HasStored d c.scope c.row.items stored

-- The instruction of this number at the start of a stage of the design: it is as the design has it, all that a stage asks of it holds, no
-- local that a port gives has a net, and each live local has the low bits of the slot of its home.
pub record IsStarted (design : Design) (stage number : ℕ) (instr : Instr) (ground : Ground) (homes : List Home) (slots : List Wire) (old new : Draft) (cond : Wire) (c : Course) : Type 0 where
  pub of : IsCourseOf design stage instr c
  pub cond_is : c.cond ≡ cond
  pub course : IsCourse new ground c
  pub whole : IsWhole c
  pub unserved : (port : ℕ) → IsUnserved port c
  pub live : (i : ℕ) → is_live_in design stage i instr ≡ true → HasLocal new homes slots number c i
  pub from : AreFrom (sources ground (numbers slots)) old new (source_numbers ground c.row.items)
  pub makes : Makes old new

-- the conditions of a stage: a net of one bit for each instruction of the design
pub record AreConds (design : Design) (nets : List ModuleNet) (conds : List Wire) : Type 0 where
  pub long : length conds ≡ length design.instrs
  pub nets_are : Each (IsNet nets) conds
  pub one_bit : Each (λ (w : Wire). w.width ≡ 1) conds

-- the instruction at a place is started under the condition of its place
abbrev pub IsStartedAt : Design → ℕ → Ground → List Home → List Wire → List Wire → Draft → Draft → ℕ → Course → Type 0
IsStartedAt design stage ground homes slots conds old new k c = (instr : Instr) (cond : Wire) → slice_get design.instrs k ≡ Some instr → slice_get conds k ≡ Some cond → IsStarted design stage k instr ground homes slots old new cond c

-- All instructions of the design at the start of a stage, in their order. What came reads the nets of the stage and its slots alone.
pub record AreStarted (design : Design) (stage : ℕ) (ground : Ground) (homes : List Home) (slots conds : List Wire) (old new : Draft) (courses : List Course) : Type 0 where
  pub long : length courses ≡ length design.instrs
  pub each : (k : ℕ) (c : Course) → slice_get courses k ≡ Some c → IsStartedAt design stage ground homes slots conds old new k c
  pub reads : Reads (sources ground (numbers slots)) old new
  pub makes : Makes old new
