-- Faults of single lines, among lines that follow others: what the others said is given as statements.
use Rattle.std.specs.Prelude.{◌≡◌, ℕ, ◌<◌, List, [], ◌∷◌, ◌++◌, Bool, IsTrue, Option, Some, None}
use Rattle.ap_text.specs.Lines.{TextLine}
use Rattle.ap_desc.specs.declared.fault.DescFault.{DescFault}
use Rattle.ap_desc.specs.declared.fault.DescFault.TheVariants.{Refused, NoMemory}
use Rattle.ap_desc.specs.declared.fault.Fault.{Fault}
use Rattle.ap_desc.specs.declared.fault.Fault.TheVariants as f
use Rattle.ap_desc.specs.declared.fault.Refusal.{Refusal}
use Rattle.ap_desc.specs.declared.statement.Statement.{Statement}
use Rattle.ap_desc.specs.FaultTable.{phase_of}
use Rattle.ap_desc.specs.Faults.{SaysAt, SaysNothing, StandsAt, IsBefore}
use Rattle.ap_desc.specs.Order.{is_out_of_order, is_one_too_many}
use Rattle.ap_desc.specs.Reading.{SpellsLine}
use Rattle.ap_read.specs.Places.{IsFaultAt, IsPlaceAfter}
use Rattle.ap_read.specs.declared.place.Place.{Place}

-- the line says this statement, or nothing
abbrev pub IsSaidAt : Option Statement → TextLine → Type 0
IsSaidAt (Some statement) line = SpellsLine statement line
IsSaidAt None line = SaysNothing line

-- the numbers of the lines rise, and the first is above this one
abbrev pub LinesRise : ℕ → List TextLine → Type 0
LinesRise number [] = Unit {0}
LinesRise number (line ∷ lines) = (number < line.number) × LinesRise line.number lines

-- the line of this number says a statement of which the test holds, after all that was said before it
abbrev pub HoldsAt : (List Statement → Statement → Bool) → List Statement → List TextLine → ℕ → Type 0
HoldsAt test said lines number = (earlier : List Statement) × (statement : Statement) × SaysAt lines number earlier statement × IsTrue (test (said ++ earlier) statement)

-- the line of this number says nothing
abbrev pub IsNothingAt : List TextLine → ℕ → Type 0
IsNothingAt lines number = (before : List TextLine) × (line : TextLine) × StandsAt lines number before line × SaysNothing line

-- one of the lines has this fault; the lines before them said these statements
abbrev pub HasLineFault : List Statement → List TextLine → Fault → ℕ → Type 0
HasLineFault said lines f.BadLine number = IsNothingAt lines number
HasLineFault said lines f.BadOrder number = HoldsAt is_out_of_order said lines number
HasLineFault said lines f.TooMany number = HoldsAt is_one_too_many said lines number
HasLineFault said lines _ number = ⊥

-- the refusal names the least fault of these lines
pub record IsLeastLineFault (said : List Statement) (lines : List TextLine) (refusal : Refusal) : Type 0 where
  pub phase : refusal.phase ≡ phase_of refusal.kind
  pub holds : HasLineFault said lines refusal.kind refusal.line
  pub least : (kind : Fault) (line : ℕ) → HasLineFault said lines kind line → IsBefore kind line refusal.kind refusal.line → ⊥

-- why the lines gave no statements: this is their least fault, or memory ran out
abbrev pub IsLineFault : List TextLine → DescFault → Type 0
IsLineFault lines (Refused refusal) = IsLeastLineFault [] lines refusal
IsLineFault lines NoMemory = Unit {0}

-- why a line gave no statement: it says nothing, or memory ran out
abbrev pub IsUnsaid : TextLine → DescFault → Type 0
IsUnsaid line (Refused refusal) = (refusal ≡ record { phase = 1; line = line.number; kind = f.BadLine }) × SaysNothing line
IsUnsaid line NoMemory = Unit {0}

-- the first of some lines has this fault, whatever lines follow it; the lines before said these statements
abbrev pub IsFaultFirst : List Statement → TextLine → DescFault → Type 0
IsFaultFirst said line (Refused refusal) = (rest : List TextLine) → LinesRise line.number rest → IsLeastLineFault said (line ∷ rest) refusal
IsFaultFirst said line NoMemory = Unit {0}

-- the line says the statement, and the statement has no fault at this place
abbrev pub IsReadAt : Place → TextLine → Statement → Type 0
IsReadAt place line statement = SpellsLine statement line × IsFaultAt place statement None

-- the line has this fault, as the first of those that are left at this place
abbrev pub IsRefusedAt : Place → TextLine → DescFault → Type 0
IsRefusedAt place line fault = (earlier : List Statement) → IsPlaceAfter earlier place → IsFaultFirst earlier line fault
