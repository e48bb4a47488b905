-- From the instructions of a stage, with the nets of their locals, to the writes, the transfer and the locals that leave.
use Rattle.std.specs.Prelude.{◌≡◌, ℕ, List, slice_get}
use Rattle.std.specs.Option.{option_map_or}
use Rattle.ap_desc.specs.declared.design.Arg.{Arg}
use Rattle.ap_desc.specs.declared.design.Design.{Design}
use Rattle.ap_desc.specs.declared.design.Instr.{Instr}
use Rattle.ap_model.specs.Fire.{is_match}
use Rattle.ap_net.specs.Draft.{Draft}
use Rattle.ap_net.specs.Modules.{ModuleText}
use Rattle.ap_net.specs.Readings.{Reading}
use Rattle.ap_ctl.specs.Building.{Tells}
use Rattle.ap_ctl.specs.Lists.{EachPair}
use Rattle.ap_pipe.specs.declared.table.Home.{Home}
use Rattle.ap_flight.specs.declared.entry.Leaving.{Leaving}
use Rattle.ap_stage.specs.declared.node.Course.{Course}
use Rattle.ap_stage.specs.declared.source.Ground.{Ground}
use Rattle.ap_stage.specs.Sources.{IsRow, value_of}
use Rattle.ap_effect.specs.declared.line.PortLine.{PortLine}
use Rattle.ap_effect.specs.declared.write.Writer.{Writer}
use Rattle.ap_outcome.specs.Outcomes.{AreLineWriters, IsLeavingOf}
use Rattle.ap_whole.specs.Effects.{LeavesLocal, WritesLine}

-- an instruction of a stage: its condition tells whether the stage's word matches it, and its row has the nets of its locals
pub record IsInstrCourse (d : Draft) (ground : Ground) (instr : Instr) (c : Course) : Type 0 where
  pub cond : Tells d (λ r. is_match (r.read ground.word.number) instr) c.cond
  pub widths : c.scope.widths ≡ instr.locals
  pub row : IsRow d.nets c.scope c.row.items

-- all instructions of the design, in their order
abbrev pub AreInstrCourses : Design → Draft → Ground → List Course → Type 0
AreInstrCourses design d ground courses = EachPair (IsInstrCourse d ground) design.instrs courses

-- the value of an operand of the instruction of this number, by the nets of its stage
abbrev pub course_value : Ground → List Course → ℕ → Reading → Arg → ℕ
course_value ground courses k r a = option_map_or (λ (c : Course). value_of r ground c.scope c.row.items a) (slice_get courses k) 0

-- by these values the writers of lines write what the lines hand in
abbrev pub LinesAreWritten : Type 0
LinesAreWritten = (design : Design) (d : Draft) (modules : List ModuleText) (ground : Ground) (courses : List Course) (lines : List PortLine) (writers : List Writer) → AreInstrCourses design d ground courses
    → AreLineWriters d ground courses lines writers → EachPair (WritesLine design d modules ground.word (course_value ground courses)) lines writers

-- and what is left to homes has the values of their locals
abbrev pub LocalsAreLeft : Type 0
LocalsAreLeft = (design : Design) (d : Draft) (modules : List ModuleText) (ground : Ground) (courses : List Course) (homes : List Home) (list : List Leaving) → AreInstrCourses design d ground courses
    → EachPair (IsLeavingOf courses) homes list → EachPair (LeavesLocal design d modules ground.word (course_value ground courses)) homes list
