-- What the instructions of the stages leave to the slots of the stages after them.
use Rattle.std.specs.Prelude.{◌≡◌, ℕ, zero, suc, ◌+◌, ◌-◌, List, [], length, slice_get, Some}
use Rattle.std.specs.List.{AllByRecursion as Each}
use Rattle.std.specs.Option.{option_map_or}
use Rattle.ap_desc.specs.declared.design.Design.{Design}
use Rattle.ap_net.specs.Draft.{Draft}
use Rattle.ap_ctl.specs.Lists.{EachPair}
use Rattle.ap_pipe.specs.declared.table.StageSlots.{StageSlots}
use Rattle.ap_flight.specs.declared.entry.Leaving.{Leaving}
use Rattle.ap_stage.specs.declared.node.Course.{Course}
use Rattle.ap_stages.specs.declared.stage.ServedStage.{ServedStage}
use Rattle.ap_outcome.specs.Outcomes.{CanLeave, IsLeavingOf}
use Rattle.ap_whole.specs.Handed.{AreInstrCourses}

-- the instructions of the stage of a number, where the stages are those from 1 on; there are none before stage 1
abbrev pub courses_of : List ServedStage → ℕ → List Course
courses_of stages zero = []
courses_of stages (suc place) = option_map_or (λ (s : ServedStage). s.courses.items) (slice_get stages place) []

-- for each home of a stage the stage before has the local's net
abbrev pub CanLeaveTo : List StageSlots → List ServedStage → Type 0
CanLeaveTo slots stages = (place : ℕ) (s : StageSlots) → slice_get slots place ≡ Some s → Each (CanLeave (courses_of stages place)) s.homes

-- what is left to the homes of the first stages is what the instructions of the stage before leave
abbrev pub EachLeft : List StageSlots → List ServedStage → List (List Leaving) → Type 0
EachLeft slots stages locals = (place : ℕ) (s : StageSlots) (list : List Leaving) → slice_get slots place ≡ Some s → slice_get locals place ≡ Some list → EachPair (IsLeavingOf (courses_of stages place)) s.homes list

-- and so it is for all stages; nothing is left to stage 1
pub record AreLeft (slots : List StageSlots) (stages : List ServedStage) (locals : List (List Leaving)) : Type 0 where
  pub long : length locals ≡ length slots
  pub each : EachLeft slots stages locals

-- the instructions of the design, with the nets of their locals
abbrev pub HasInstrs : Design → Draft → ServedStage → Type 0
HasInstrs design d s = AreInstrCourses design d s.ground s.courses.items

-- Each stage from 1 on has the instructions of the design. Each local that is live into the stage after it has its net there.
pub record CanLeaveOn (design : Design) (d : Draft) (slots : List StageSlots) (stages : List ServedStage) : Type 0 where
  pub count : length stages ≡ design.stages - 1
  pub instrs : Each (HasInstrs design d) stages
  pub homes : (place : ℕ) (s : ServedStage) (after : StageSlots) → slice_get stages place ≡ Some s → slice_get slots (place + 1) ≡ Some after → Each (CanLeave s.courses.items) after.homes
