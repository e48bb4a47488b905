-- What an environment does with one statement: what it refuses, what it notes.
use Rattle.std.specs.Prelude.{◌≡◌, ℕ, List, Option, Some, None, Result, Ok, Err}
use Rattle.ap_bits.specs.declared.card.Card.{Card}
use Rattle.ap_desc.specs.declared.description.Numbered.{Numbered}
use Rattle.ap_desc.specs.declared.fault.DescFault.{DescFault}
use Rattle.ap_desc.specs.declared.fault.DescFault.TheVariants.{Refused, NoMemory}
use Rattle.ap_desc.specs.declared.fault.Fault.{Fault}
use Rattle.ap_desc.specs.declared.fault.Refusal.{Refusal}
use Rattle.ap_desc.specs.FaultTable.{phase_of}
use Rattle.ap_check.specs.Added.{IsAdded}
use Rattle.ap_check.specs.declared.environment.Environment.{Environment}
use Rattle.ap_check.specs.declared.stop.Stop.{Stop}
use Rattle.ap_check.specs.declared.stop.Stop.TheVariants as stop
use Rattle.ap_check.specs.declared.uses.Use.{Use}

-- the refusal of a line
abbrev pub refusal_at : ℕ → Fault → Refusal
refusal_at line kind = record { phase = phase_of kind; line = line; kind = kind }

-- this fault at the line is refused, or memory ran out
abbrev pub IsRefusedAt : ℕ → Option Fault → DescFault → Type 0
IsRefusedAt line fault (Refused refusal) = (fault ≡ Some refusal.kind) × (refusal ≡ refusal_at line refusal.kind)
IsRefusedAt line fault NoMemory = Unit {0}

-- what is noted after the draft took a statement: nothing, or the fault that stopped it
abbrev pub IsNotedAs : ℕ → Result (Unit {0}) Stop → Option Refusal → Type 0
IsNotedAs line (Ok done) noted = noted ≡ None
IsNotedAs line (Err (stop.Fault kind)) noted = noted ≡ Some (refusal_at line kind)
IsNotedAs line (Err stop.NoMemory) noted = ⊥

-- after a fault nothing changes; else the draft takes the statement
abbrev pub IsDescribedAfter : Option Refusal → List Card → Numbered → Use → Environment → Environment → Type 0
IsDescribedAfter (Some refusal) cards n used old new = new ≡ old
IsDescribedAfter None cards n used old new = (result : Result (Unit {0}) Stop) × IsAdded cards n.line old.draft n.statement used new.draft result × IsNotedAs n.line result new.noted
