-- What resolving a description answers.
use Rattle.std.specs.Prelude.{List}
use Rattle.ap_bits.specs.declared.card.Card.{Card}
use Rattle.ap_desc.specs.declared.description.Numbered.{Numbered}
use Rattle.ap_desc.specs.declared.design.Design.{Design}
use Rattle.ap_desc.specs.declared.fault.DescFault.{DescFault}
use Rattle.ap_desc.specs.declared.fault.DescFault.TheVariants.{Refused, NoMemory}
use Rattle.ap_desc.specs.Least.{IsLeast, HoldsNowhere}
use Rattle.ap_desc.specs.Meaning.{IsLeastMeaningFault, IsLeastPortFault, IsLeastWordFault}
use Rattle.ap_desc.specs.StatementFaults.{HasStatementFault}

-- why statements gave no design: this is their least fault of names and widths, or memory ran out
abbrev pub IsLineFault : List Numbered → List Card → DescFault → Type 0
IsLineFault statements cards (Refused refusal) = IsLeast (HasStatementFault statements cards) refusal
IsLineFault statements cards NoMemory = Unit {0}

-- no line has a fault of names or widths
abbrev pub IsResolvable : List Numbered → List Card → Type 0
IsResolvable statements cards = HoldsNowhere (HasStatementFault statements cards)

-- why a design is refused: this is its least fault of words, or of ports and stages, or memory ran out
abbrev pub IsWordFault : Design → DescFault → Type 0
IsWordFault design (Refused refusal) = IsLeastWordFault design refusal
IsWordFault design NoMemory = Unit {0}

abbrev pub IsPortFault : Design → DescFault → Type 0
IsPortFault design (Refused refusal) = IsLeastPortFault design refusal
IsPortFault design NoMemory = Unit {0}

-- why a description has no design: this is its least fault of meaning, or memory ran out
abbrev pub IsMeaningFault : List Numbered → List Card → DescFault → Type 0
IsMeaningFault statements cards (Refused refusal) = IsLeastMeaningFault statements cards refusal
IsMeaningFault statements cards NoMemory = Unit {0}
