-- What the lines of the stages write, shown at the outputs of top.
use Rattle.std.specs.Prelude.{◌≡◌, ℕ, ◌+◌, ◌-◌, ◌≤◌, List, ◌++◌, Some, flat_map, length, option_map, slice_get}
use Rattle.std.specs.List.{AllByRecursion as Each}
use Rattle.ap_desc.specs.declared.design.Design.{Design}
use Rattle.ap_model.specs.declared.storage.WritePort.{WritePort}
use Rattle.ap_net.specs.declared.cell.Wire.{Wire}
use Rattle.ap_net.specs.Draft.{Draft, Extends}
use Rattle.ap_net.specs.Ready.{Dependence, ReadyAfter, numbers}
use Rattle.ap_ctl.specs.Building.{IsBit}
use Rattle.ap_merge.specs.Selects.{GoesOver}
use Rattle.ap_stage.specs.Courses.{IsCourse, courses_numbers}
use Rattle.ap_stage.specs.Sources.{IsGround}
use Rattle.ap_stages.specs.declared.stage.ServedStage.{ServedStage}
use Rattle.ap_effect.specs.declared.write.WriteNets.{WriteNets}
use Rattle.ap_effect.specs.Lines.{transfer_lines, write_lines}
use Rattle.ap_outcome.specs.Outcomes.{HasCourse}
use Rattle.ap_bank.specs.Joins.{JoinsPort}
use Rattle.ap_commit.specs.declared.write.UsedPort.{UsedPort}
use Rattle.ap_commit.specs.Widths.{AreOfDesign}
use Rattle.ap_commit.specs.Written.{IsWritten}
use Rattle.ap_slow.specs.Driven.{DrivesLate}
use Rattle.ap_act.specs.declared.outputs.PortOutputs.{PortOutputs}
use Rattle.ap_act.specs.Outputs.{StageWrites, all_numbers, output_numbers}

-- The data of a stage: its instructions are the design's, and all that their lines write or transfer by has nets.
pub record StageCanAct (design : Design) (d : Draft) (stage : ℕ) (s : ServedStage) : Type 0 where
  pub ground : IsGround d.nets s.ground
  pub courses : Each (IsCourse d s.ground) s.courses.items
  pub of : AreOfDesign design s.ground s.courses.items
  pub writes : (p : WritePort) → Each (HasCourse s.courses.items) (write_lines design stage p)
  pub transfers : Each (HasCourse s.courses.items) (transfer_lines design stage)

-- Each stage from 1 on has a net of one bit, and its data.
pub record CanAct (design : Design) (d : Draft) (bits : List Wire) (stages : List ServedStage) : Type 0 where
  pub are_bits : Each (IsBit d.nets) bits
  pub bit_count : length bits ≡ design.stages - 1
  pub count : length stages ≡ design.stages - 1
  pub each : (place : ℕ) (s : ServedStage) → slice_get stages place ≡ Some s → StageCanAct design d (place + 1) s

-- the nets of the instructions of a stage, and all nets on which what the lines do stands
abbrev pub stage_numbers : ServedStage → List ℕ
stage_numbers s = courses_numbers s.ground s.courses.items

abbrev pub acting : List Wire → List ServedStage → List ℕ
acting bits stages = numbers bits ++ flat_map stage_numbers stages

-- the port with the bits of its outputs, and a selection over its lines in the stage
pub record IsUsedPort (design : Design) (stage : ℕ) (o : PortOutputs) (used : UsedPort) : Type 0 where
  pub of : used.port ≡ o.port
  pub bits : used.bits ≡ option_map (λ (w : Wire). w.width) (o.to).index
  pub width : used.width ≡ (o.to).value.width
  pub some : 1 ≤ length (write_lines design stage o.port)
  pub over : GoesOver used.select 0 (length (write_lines design stage o.port))

-- In the stage whose lines write through the port nets were made of what they write where the stage fires, and the outputs are driven by
-- them. They follow from what fires and from the nets of the instructions.
pub record IsPortWritten (design : Design) (fires : List Wire) (stages : List ServedStage) (d : Draft) (o : PortOutputs) : Type 0 where
  pub stage : ℕ
  pub writes : StageWrites design o.port stage
  pub served : ServedStage
  pub served_at : slice_get stages (stage - 1) ≡ Some served
  pub fire : Wire
  pub fire_at : slice_get fires (stage - 1) ≡ Some fire
  pub used : UsedPort
  pub of : used.port ≡ o.port
  pub made : WriteNets
  pub before : Draft
  pub written : IsWritten before design stage served.ground served.courses.items fire used made
  pub after : Draft
  pub joins : JoinsPort o.to made before after
  pub grows : Extends after d
  pub ready : (by : Dependence) → Each (ReadyAfter by d (acting fires stages)) (output_numbers o)

-- So it is for each of these outputs; nothing else was driven, and what came follows from the same nets.
pub record WritesAll (design : Design) (fires : List Wire) (stages : List ServedStage) (outputs : List PortOutputs) (old new : Draft) : Type 0 where
  pub each : Each (IsPortWritten design fires stages new) outputs
  pub drives : DrivesLate (all_numbers outputs) (acting fires stages) old new
