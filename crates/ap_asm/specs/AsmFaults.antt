-- The faults of a program's text. Those of lines come first; whether slot lines are too near is looked at where no line has a fault, and
-- whether the image is full where no slot line is too near. The rules are the project's own.
use Rattle.std.specs.Prelude.{◌≡◌, ℕ, nat_lt, MatchBool, List, length}
use Rattle.ap_desc.specs.declared.design.Design.{Design}
use Rattle.ap_image.specs.TextFaults.{text_limit}
use Rattle.ap_program.specs.AsmKinds.{IsFaultOf}
use Rattle.ap_program.specs.LineFaults.{AreFaultless, HasLineFault}
use Rattle.ap_program.specs.Sources.{numbers_of, source_of}
use Rattle.ap_program.specs.Statements.{program_of}
use Rattle.ap_program.specs.declared.fault.AsmFault.{AsmFault}
use Rattle.ap_program.specs.declared.fault.AsmKind.{AsmKind}
use Rattle.ap_program.specs.declared.fault.AsmKind.TheVariants as kind
use Rattle.ap_program.specs.declared.statement.ProgramLine.{ProgramLine}
use Rattle.ap_asm.specs.LinePlaces.{HasFullImage, HasSlotConflict}

-- no line has a fault by itself, and no slot line is too near
pub record AreApart (design : Design) (lines : List ProgramLine) : Type 0 where
  pub faultless : AreFaultless design lines
  pub slots : (number : ℕ) → HasSlotConflict design (source_of design lines) (numbers_of lines) number → ⊥

-- a fault holds at the line of this number
abbrev pub HasProgramFault : Design → List ProgramLine → AsmKind → ℕ → Type 0
HasProgramFault design lines kind.SlotConflict number = AreFaultless design lines × HasSlotConflict design (source_of design lines) (numbers_of lines) number
HasProgramFault design lines kind.ImageFull number = AreApart design lines × HasFullImage design (source_of design lines) (numbers_of lines) number
HasProgramFault design lines kind number = HasLineFault design lines kind number

-- the same of a text; line 0 is the text as a whole. One that is too long has no other fault
abbrev pub HasAsmFault : Design → List ℕ → AsmKind → ℕ → Type 0
HasAsmFault design text fault number = MatchBool (nat_lt text_limit (length text))
    ((fault ≡ kind.BadForm) × (number ≡ 0))
    (HasProgramFault design (program_of text) fault number)

-- the text has no fault
abbrev pub IsFaultlessProgram : Design → List ℕ → Type 0
IsFaultlessProgram design text = (fault : AsmKind) (number : ℕ) → HasAsmFault design text fault number → ⊥

-- why the text wasn't assembled: this is its least fault, or memory ran out
abbrev pub IsAsmFault : Design → List ℕ → AsmFault → Type 0
IsAsmFault design text = IsFaultOf (HasAsmFault design text)
