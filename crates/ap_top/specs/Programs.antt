-- Programs for the processor that a description means.
use Rattle.std.specs.Prelude.{◌≡◌, ℕ, List, [], ◌∷◌}
use Rattle.ap_bits.specs.declared.card.Card.{Card}
use Rattle.ap_desc.specs.DesignOf.{design_of}
use Rattle.ap_desc.specs.Meaning.{IsAccepted}
use Rattle.ap_desc.specs.Reading.{ReadsAs}
use Rattle.ap_desc.specs.declared.description.Numbered.{Numbered}
use Rattle.ap_desc.specs.declared.design.Design.{Design}
use Rattle.ap_program.specs.AsmKinds.{IsLeastOf}
use Rattle.ap_program.specs.Sources.{source_of}
use Rattle.ap_program.specs.Statements.{program_of}
use Rattle.ap_program.specs.declared.fault.AsmKind.{AsmKind}
use Rattle.ap_asm.specs.AsmFaults.{HasAsmFault, IsFaultlessProgram}
use Rattle.ap_asm.specs.Assembled.{IsAssembled}
use Rattle.ap_asm.specs.declared.assembling.Assembled.{Assembled}

-- the design that a description without fault means, over the cards of the shelf
pub record IsDesignOf (cards : List Card) (text : List ℕ) (design : Design) : Type 0 where
  pub accepted : IsAccepted text cards
  pub statements : List Numbered
  pub reads : ReadsAs text statements
  pub means : design ≡ design_of statements cards

-- the program has no fault, where the first of the texts before it describes its processor
abbrev pub IsFaultlessAfter : List Card → List (List ℕ) → List ℕ → Type 0
IsFaultlessAfter cards [] program = ⊥
IsFaultlessAfter cards (description ∷ others) program = (design : Design) × IsDesignOf cards description design × IsFaultlessProgram design program

-- this is its least fault
abbrev pub HasLeastFaultAfter : List Card → List (List ℕ) → List ℕ → ℕ → AsmKind → Type 0
HasLeastFaultAfter cards [] program line kind = ⊥
HasLeastFaultAfter cards (description ∷ others) program line kind = (design : Design) × IsDesignOf cards description design × IsLeastOf (HasAsmFault design program) kind line

-- the program at its places in the processor that the description means
pub record IsAssembledFor (cards : List Card) (description program : List ℕ) (design : Design) (made : Assembled) : Type 0 where
  pub means : IsDesignOf cards description design
  pub assembled : IsAssembled design (source_of design (program_of program)) made
