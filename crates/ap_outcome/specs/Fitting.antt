-- What is handed on has the bits of what takes it, and each of its nets is one of the stage's.
use Rattle.std.specs.Prelude.{◌≡◌, ◌≤◌, ℕ, List, slice_get, IfSome, Option, None, Some}
use Rattle.std.specs.List.{AllByRecursion as Each}
use Rattle.ap_desc.specs.Designs.{width_at}
use Rattle.ap_desc.specs.declared.design.Arg.{Arg}
use Rattle.ap_net.specs.declared.cell.Wire.{Wire}
use Rattle.ap_net.specs.Draft.{Draft, Extends}
use Rattle.ap_net.specs.Pending.{Among}
use Rattle.ap_ctl.specs.Lists.{EachPair}
use Rattle.ap_pipe.specs.declared.table.Home.{Home}
use Rattle.ap_flight.specs.declared.entry.Leaving.{Leaving}
use Rattle.ap_flight.specs.Entries.{leaving_numbers}
use Rattle.ap_flight.specs.Stages.{FitsHome}
use Rattle.ap_stage.specs.declared.node.Course.{Course}
use Rattle.ap_stage.specs.declared.source.Ground.{Ground}
use Rattle.ap_stage.specs.Courses.{IsCourse, courses_numbers}
use Rattle.ap_stage.specs.Sources.{bits_of}
use Rattle.ap_effect.specs.declared.line.PortLine.{PortLine}
use Rattle.ap_effect.specs.declared.write.Writer.{Writer}
use Rattle.ap_effect.specs.Writers.{IsWriter}
use Rattle.ap_outcome.specs.Outcomes.{AreLineWriters, IsLeavingOf}

-- the operand has so many bits
abbrev pub HasBits : Ground → Course → ℕ → Arg → Type 0
HasBits ground c bits a = bits_of ground c.scope a ≡ bits

-- an index has so many bits, and is there where there are bits for it
abbrev pub HasIndexBits : Ground → Course → Option ℕ → Option Arg → Type 0
HasIndexBits ground c None None = Unit {0}
HasIndexBits ground c (Some bits) (Some a) = HasBits ground c bits a
HasIndexBits ground c _ _ = ⊥

-- what a line of this instruction hands in has the bits of the port, and a guard has one
pub record HasPortBits (ground : Ground) (bits : Option ℕ) (width : ℕ) (c : Course) (line : PortLine) : Type 0 where
  pub guard : IfSome line.guard (HasBits ground c 1)
  pub index : HasIndexBits ground c bits line.index
  pub value : HasBits ground c width line.value

-- the line fits the port, whichever course its instruction has
abbrev pub FitsPort : Ground → List Course → Option ℕ → ℕ → PortLine → Type 0
FitsPort ground courses bits width line = (c : Course) → slice_get courses line.instr ≡ Some c → HasPortBits ground bits width c line

-- So the writers of lines that fit a port are writers for it.
abbrev pub LineWritersFit : Type 0
LineWritersFit = (d : Draft) (ground : Ground) (courses : List Course) (bits : Option ℕ) (width : ℕ) (lines : List PortLine) (writers : List Writer)
    → Each (IsCourse d ground) courses → Each (FitsPort ground courses bits width) lines → AreLineWriters d ground courses lines writers → Each (IsWriter d.nets bits width) writers

-- And they go on where a draft grows.
abbrev pub LineWritersGoOn : Type 0
LineWritersGoOn = (a b : Draft) (ground : Ground) (courses : List Course) (lines : List PortLine) (writers : List Writer) → Extends a b → AreLineWriters a ground courses lines writers → AreLineWriters b ground courses lines writers

-- the local of a home has no more bits than the home's slot
abbrev pub FitsSlot : List Course → List Wire → Home → Type 0
FitsSlot courses slots home = (c : Course) (slot : Wire) → slice_get courses home.instr ≡ Some c → slice_get slots home.slot ≡ Some slot → width_at (λ (width : ℕ). width) c.scope.widths home.local ≤ slot.width

-- So what is left to homes fits them.
abbrev pub LeavingsFit : Type 0
LeavingsFit = (d : Draft) (ground : Ground) (courses : List Course) (slots : List Wire) (homes : List Home) (list : List Leaving)
    → Each (IsCourse d ground) courses → Each (FitsSlot courses slots) homes → EachPair (IsLeavingOf courses) homes list → EachPair (FitsHome d.nets slots) homes list

-- Each net that is left, and each condition, is one of the stage's.
abbrev pub LeavingsAreAmong : Type 0
LeavingsAreAmong = (ground : Ground) (courses : List Course) (homes : List Home) (list : List Leaving)
    → EachPair (IsLeavingOf courses) homes list → Each (Among (courses_numbers ground courses)) (leaving_numbers list)
