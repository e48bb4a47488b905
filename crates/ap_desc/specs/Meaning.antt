-- The faults of a description, of a design and of a text, and the least of each. A condition of a kind may be met where an earlier
-- phase or an earlier line is faulty already; a fault is one that is looked at.
use Rattle.std.specs.Prelude.{◌≡◌, ℕ, ◌≤◌, ◌⊎◌, List}
use Rattle.ap_bits.specs.declared.card.Card.{Card}
use Rattle.ap_desc.specs.declared.description.Numbered.{Numbered}
use Rattle.ap_desc.specs.declared.design.Design.{Design}
use Rattle.ap_desc.specs.declared.fault.Fault.{Fault}
use Rattle.ap_desc.specs.declared.fault.Refusal.{Refusal}
use Rattle.ap_desc.specs.Clean.{HasDesignFault}
use Rattle.ap_desc.specs.DesignOf.{design_of}
use Rattle.ap_desc.specs.Faults.{HasFormFault}
use Rattle.ap_desc.specs.FaultTable.{phase_of}
use Rattle.ap_desc.specs.Least.{IsFound, IsLeast, HoldsNowhere}
use Rattle.ap_desc.specs.StatementFaults.{HasStatementFault}
use Rattle.ap_desc.specs.Reading.{ReadsAs}

-- the conditions of the phase of words hold of the design
abbrev pub MeetsWordFault : Design → Fault → ℕ → Type 0
MeetsWordFault design kind line = (phase_of kind ≡ 4) × HasDesignFault design kind line

-- the conditions of the phases of ports and stages
abbrev pub MeetsPortFault : Design → Fault → ℕ → Type 0
MeetsPortFault design kind line = (5 ≤ phase_of kind) × HasDesignFault design kind line

-- the least fault of words of a design
abbrev pub IsLeastWordFault : Design → Refusal → Type 0
IsLeastWordFault design = IsLeast (IsFound (MeetsWordFault design))

-- the least fault of ports and stages of a design
abbrev pub IsLeastPortFault : Design → Refusal → Type 0
IsLeastPortFault design = IsLeast (IsFound (MeetsPortFault design))

-- a condition holds at a line of a description: of its statements for names and widths, and of their design for the later phases
abbrev pub MeetsMeaningFault : List Numbered → List Card → Fault → ℕ → Type 0
MeetsMeaningFault statements cards kind line = HasStatementFault statements cards kind line ⊎ HasDesignFault (design_of statements cards) kind line

-- a description has this fault of meaning at this line
abbrev pub HasMeaningFault : List Numbered → List Card → Fault → ℕ → Type 0
HasMeaningFault statements cards = IsFound (MeetsMeaningFault statements cards)

-- the least fault of meaning of a description
abbrev pub IsLeastMeaningFault : List Numbered → List Card → Refusal → Type 0
IsLeastMeaningFault statements cards = IsLeast (HasMeaningFault statements cards)

-- the description means a design: no condition of a fault of meaning holds
abbrev pub IsMeaningful : List Numbered → List Card → Type 0
IsMeaningful statements cards = HoldsNowhere (MeetsMeaningFault statements cards)

-- a condition holds at a line of a text: of form, or of what it reads as
abbrev pub MeetsFault : List ℕ → List Card → Fault → ℕ → Type 0
MeetsFault text cards kind line = HasFormFault text kind line ⊎ ((statements : List Numbered) × ReadsAs text statements × MeetsMeaningFault statements cards kind line)

-- a text has this fault at this line, over the cards of a shelf
abbrev pub HasFault : List ℕ → List Card → Fault → ℕ → Type 0
HasFault text cards = IsFound (MeetsFault text cards)

-- the least fault of a text
abbrev pub IsLeastFault : List ℕ → List Card → Refusal → Type 0
IsLeastFault text cards = IsLeast (HasFault text cards)

-- the text is accepted: it has no fault
abbrev pub IsAccepted : List ℕ → List Card → Type 0
IsAccepted text cards = HoldsNowhere (MeetsFault text cards)
