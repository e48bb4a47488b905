-- Choices that were gathered so far: those of the operands of some ports.
use Rattle.std.specs.Prelude.{◌≡◌, ℕ, ◌<◌, ◌⊎◌, ◌^◌, List, Any, Contains, length, Some, slice_get}
use Rattle.std.specs.List.{AllByRecursion as Each}
use Rattle.ap_desc.specs.declared.design.Arg.{Arg}
use Rattle.ap_path.specs.Uses.{operand_at}
use Rattle.ap_path.specs.declared.table.PathPort.{PathPort}
use Rattle.ap_path.specs.declared.table.PathUse.{PathUse}
use Rattle.ap_merge.specs.Choices.{HasOperand, IsChoice}
use Rattle.ap_merge.specs.declared.table.Choice.{Choice}

-- the ports of the uses, each once
pub record ArePorts (uses : List PathUse) (ports : List PathPort) : Type 0 where
  pub all : (used : PathUse) → Contains uses used → Contains ports used.port
  pub once : (port : PathPort) (i j : ℕ) → slice_get ports i ≡ Some port → slice_get ports j ≡ Some port → i ≡ j

-- no use has more than three operands, and there are no more uses than can be counted
pub record AreFew (uses : List PathUse) : Type 0 where
  pub operands : (used : PathUse) (operand : ℕ) (a : Arg) → Contains uses used → operand_at used operand ≡ Some a → operand < 3
  pub count : length uses < 2 ^ 32

-- the port is one of the earlier ones, or the one at the place and the operand's number is below
abbrev pub IsDone : List PathPort → ℕ → ℕ → PathPort → ℕ → Type 0
IsDone ports place below port operand = ((i : ℕ) × (i < place) × (slice_get ports i ≡ Some port)) ⊎ ((slice_get ports place ≡ Some port) × (operand < below))

-- the choices for the operands that are done
pub record AreGathered (uses : List PathUse) (ports : List PathPort) (place below : ℕ) (choices : List Choice) : Type 0 where
  pub each : Each (IsChoice uses) choices
  pub all : (used : PathUse) (operand : ℕ) (a : Arg) → Contains uses used → operand_at used operand ≡ Some a → IsDone ports place below used.port operand → Any (HasOperand used.port operand) choices
  pub done : (c : Choice) → Contains choices c → IsDone ports place below c.port c.operand
  pub once : (i j : ℕ) (one other : Choice) → slice_get choices i ≡ Some one → slice_get choices j ≡ Some other → HasOperand one.port one.operand other → i ≡ j
