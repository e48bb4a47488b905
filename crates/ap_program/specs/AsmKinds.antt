-- The kinds of faults of a program's text, and the least of faults.
use Rattle.std.specs.Prelude.{ℕ, ◌≤◌, List, codes}
use Rattle.ap_program.specs.declared.fault.AsmFault.{AsmFault}
use Rattle.ap_program.specs.declared.fault.AsmFault.TheVariants.{NoMemory, At}
use Rattle.ap_program.specs.declared.fault.AsmKind.{AsmKind}
use Rattle.ap_program.specs.declared.fault.AsmKind.TheVariants as kind

-- the number of a kind: of two kinds at one line the lower one is named
abbrev pub number_of : AsmKind → ℕ
number_of kind.BadForm = 1
number_of kind.UnknownInstruction = 2
number_of kind.UnknownLabel = 3
number_of kind.LabelTwice = 4
number_of kind.OperandCount = 5
number_of kind.FieldRange = 6
number_of kind.TransferInSlot = 7
number_of kind.SlotConflict = 8
number_of kind.TooManySlots = 9
number_of kind.ImageFull = 10
number_of kind.LabelInSlot = 11
number_of kind.BadData = 12

-- the kind as it is printed
abbrev pub code_of : AsmKind → List ℕ
code_of kind.BadForm = codes "A1 BadForm"
code_of kind.UnknownInstruction = codes "A2 UnknownInstruction"
code_of kind.UnknownLabel = codes "A3 UnknownLabel"
code_of kind.LabelTwice = codes "A4 LabelTwice"
code_of kind.OperandCount = codes "A5 OperandCount"
code_of kind.FieldRange = codes "A6 FieldRange"
code_of kind.TransferInSlot = codes "A7 TransferInSlot"
code_of kind.SlotConflict = codes "A8 SlotConflict"
code_of kind.TooManySlots = codes "A9 TooManySlots"
code_of kind.ImageFull = codes "A10 ImageFull"
code_of kind.LabelInSlot = codes "A11 LabelInSlot"
code_of kind.BadData = codes "A12 BadData"

-- of the faults that hold, by their kinds and lines, this one is the least: by its line, and then by its number
pub record IsLeastOf (holds_at : AsmKind → ℕ → Type 0) (fault : AsmKind) (line : ℕ) : Type 0 where
  pub holds : holds_at fault line
  pub first : (other : AsmKind) (number : ℕ) → holds_at other number → line ≤ number
  pub least : (other : AsmKind) → holds_at other line → number_of fault ≤ number_of other

-- why there is no answer: of these faults this is the least, or memory ran out
abbrev pub IsFaultOf : (AsmKind → ℕ → Type 0) → AsmFault → Type 0
IsFaultOf holds_at (At line fault) = IsLeastOf holds_at fault line
IsFaultOf holds_at NoMemory = Unit {0}
