-- The fault of one statement in one phase: of two the one of the lower number.
use Rattle.std.specs.Prelude.{◌≡◌, ℕ, ◌<◌, Bool, false, IsTrue, Option, Some, None}
use Rattle.ap_desc.specs.declared.fault.Fault.{Fault}
use Rattle.ap_desc.specs.FaultTable.{phase_of, number_of}

-- no kind of the phase holds
abbrev pub HoldsNoneOf : (Fault → Bool) → ℕ → Type 0
HoldsNoneOf holds phase = (kind : Fault) → phase_of kind ≡ phase → holds kind ≡ false

-- this kind of the phase holds, and none of a lower number
pub record IsFirstOf (test : Fault → Bool) (looked_for : ℕ) (kind : Fault) : Type 0 where
  pub phase : phase_of kind ≡ looked_for
  pub holds : IsTrue (test kind)
  pub first : (other : Fault) → phase_of other ≡ looked_for → number_of other < number_of kind → test other ≡ false

-- the fault of the phase, if there is one
abbrev pub IsFaultOf : (Fault → Bool) → ℕ → Option Fault → Type 0
IsFaultOf holds phase None = HoldsNoneOf holds phase
IsFaultOf holds phase (Some kind) = IsFirstOf holds phase kind
