-- The one of two faults that comes first.
use Rattle.std.specs.Prelude.{ℕ, ◌==◌, ◌&&◌, ◌||◌, nat_lt, Bool, Option, Some, None, if◌then◌else◌}
use Rattle.ap_desc.specs.FaultTable.{number_of, phase_of}
use Rattle.ap_desc.specs.declared.fault.Fault.{Fault}
use Rattle.ap_desc.specs.declared.fault.Refusal.{Refusal}

-- by phase, then by line, then by number
abbrev pub is_before : Refusal → Refusal → Bool
is_before one other =
    nat_lt one.phase other.phase
    || ((one.phase == other.phase) && (nat_lt one.line other.line || ((one.line == other.line) && nat_lt (number_of one.kind) (number_of other.kind))))

-- the first of two, where there are any
abbrev pub sooner : Option Refusal → Option Refusal → Option Refusal
sooner None other = other
sooner (Some one) None = Some one
sooner (Some one) (Some other) = if is_before other one then Some other else Some one

-- the refusal for a kind at a line, where there is one
abbrev pub refusal_at : Fault → Option ℕ → Option Refusal
refusal_at kind None = None
refusal_at kind (Some line) = Some (record { phase = phase_of kind; line = line; kind = kind })
