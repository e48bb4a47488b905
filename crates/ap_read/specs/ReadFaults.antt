-- What reading a text answers.
use Rattle.std.specs.Prelude.{◌≡◌, ℕ, List, MatchResult, Result}
use Rattle.ap_desc.specs.declared.description.Numbered.{Numbered}
use Rattle.ap_desc.specs.declared.fault.DescFault.{DescFault}
use Rattle.ap_desc.specs.declared.fault.DescFault.TheVariants.{Refused, NoMemory}
use Rattle.ap_desc.specs.Faults.{IsLeastFormFault}

-- why a text gave no description: this is its least fault, or memory ran out
abbrev pub IsReadFault : List ℕ → DescFault → Type 0
IsReadFault text (Refused refusal) = IsLeastFormFault text refusal
IsReadFault text NoMemory = Unit {0}

-- the text was read as these statements, or memory ran out
abbrev pub IsReadOrMemory : List Numbered → Result (List Numbered) DescFault → Type 0
IsReadOrMemory statements result = MatchResult result (λ read. read ≡ statements) (λ fault. fault ≡ NoMemory)
