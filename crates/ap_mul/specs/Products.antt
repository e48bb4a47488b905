-- The method by which a multiplier comes to a product: as on paper, a bit of the second factor a step.
use Rattle.std.specs.Prelude.{ℕ, ◌+◌, ◌-◌, ◌*◌, ◌/◌, ◌%◌, ◌^◌}
use Rattle.ap_unit.specs.Methods.{State, Method}

-- A step: the first factor is added to the high number where the lowest bit of the low number is 1, and both move down by a bit.
abbrev pub product_step : ℕ → ℕ → State → State
product_step w a state = let sum = state.high + state.low % 2 * a in record { high = sum / 2; low = sum % 2 * 2 ^ (w - 1) + state.low / 2 }

-- it begins with 0 and the second factor
abbrev pub multiply : ℕ → Method
multiply w = record { start = λ a b. record { high = 0; low = b }; step = λ a b state. product_step w a state }
