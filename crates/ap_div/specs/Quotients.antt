-- The method by which a divider comes to quotient and remainder: as on paper, a bit of the dividend a step.
use Rattle.std.specs.Prelude.{ℕ, ◌+◌, ◌-◌, ◌*◌, ◌/◌, ◌%◌, ◌^◌, nat_lt, if◌then◌else◌}
use Rattle.ap_unit.specs.Methods.{State, Method}

-- The rest of the division so far, with the highest bit of the low number below it.
abbrev pub longer_rest : ℕ → State → ℕ
longer_rest w state = state.high * 2 + state.low / 2 ^ (w - 1)

-- A step: the divisor is taken off the longer rest where it goes into it, and the low number moves up by a bit, which says so.
abbrev pub quotient_step : ℕ → ℕ → State → State
quotient_step w b state = if nat_lt (longer_rest w state) b
    then record { high = longer_rest w state; low = state.low % 2 ^ (w - 1) * 2 }
    else record { high = (longer_rest w state - b) % 2 ^ w; low = state.low % 2 ^ (w - 1) * 2 + 1 }

-- it begins with 0 and the dividend
abbrev pub divide : ℕ → Method
divide w = record { start = λ a b. record { high = 0; low = a }; step = λ a b state. quotient_step w b state }
