-- Which of the faults that hold are looked at, and which one is named. `Holds` says where each kind of fault holds.
use Rattle.std.specs.Prelude.{◌≡◌, ℕ, ◌<◌, ◌⊎◌}
use Rattle.ap_desc.specs.declared.fault.Fault.{Fault}
use Rattle.ap_desc.specs.declared.fault.Refusal.{Refusal}
use Rattle.ap_desc.specs.Faults.{IsBefore}
use Rattle.ap_desc.specs.FaultTable.{phase_of}

-- what is looked at before a kind at a line: every earlier phase, and from the second phase on the earlier lines of its own
abbrev pub IsLookedAtBefore : Fault → ℕ → Fault → ℕ → Type 0
IsLookedAtBefore other other_line kind line =
    (phase_of other < phase_of kind) ⊎ ((1 < phase_of kind) × (phase_of other ≡ phase_of kind) × (other_line < line))

-- the fault holds and is looked at: nothing that is looked at before it holds
pub record IsFound (Holds : Fault → ℕ → Type 0) (kind : Fault) (line : ℕ) : Type 0 where
  pub holds : Holds kind line
  pub first : (other : Fault) (other_line : ℕ) → IsLookedAtBefore other other_line kind line → Holds other other_line → ⊥

-- the refusal names the least fault: by phase, then by line, then by number
pub record IsLeast (Holds : Fault → ℕ → Type 0) (refusal : Refusal) : Type 0 where
  pub phase : refusal.phase ≡ phase_of refusal.kind
  pub holds : Holds refusal.kind refusal.line
  pub least : (kind : Fault) (line : ℕ) → Holds kind line → IsBefore kind line refusal.kind refusal.line → ⊥

-- no fault holds
abbrev pub HoldsNowhere : (Fault → ℕ → Type 0) → Type 0
HoldsNowhere Holds = (kind : Fault) (line : ℕ) → Holds kind line → ⊥
