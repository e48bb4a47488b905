-- How a unit that makes a step a cycle comes to its values, whatever its circuit: from which state it begins, what a step makes of a
-- state, and which part of the last state is the value of an operation.
use Rattle.std.specs.Prelude.{◌≡◌, ℕ, zero, suc, ◌^◌, ◌<◌, ◌==◌, if◌then◌else◌, length}
use Rattle.ap_bits.specs.declared.card.Card.{Card}
use Rattle.ap_bits.specs.Cards.{operation_value}

-- the two numbers that are kept from step to step
pub record State : Type 0 where
  pub high : ℕ
  pub low : ℕ

-- the first state for the operands a and b, and what a step makes of a state
pub record Method : Type 0 where
  pub start : ℕ → ℕ → State
  pub step : ℕ → ℕ → State → State

-- the state after n steps
abbrev pub after_steps : Method → ℕ → ℕ → ℕ → State
after_steps method a b zero = method.start a b
after_steps method a b (suc n) = method.step a b (after_steps method a b n)

-- what is shown of a state: its low number for operation 0, its high one for operation 1
abbrev pub shown_of : ℕ → State → ℕ
shown_of op state = if op == 1 then state.high else state.low

-- after as many steps as the width has bits, what is shown is the value of each operation of the card
abbrev pub Reaches : Method → Card → ℕ → Type 0
Reaches method card w = (op a b : ℕ) → op < length card.ops → a < 2 ^ w → b < 2 ^ w → shown_of op (after_steps method a b w) ≡ operation_value card w op a b
