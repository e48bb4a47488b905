-- The corners at which operations are worked out, and the table of an operation at them.
use Rattle.std.specs.Prelude.{ℕ, ◌+◌, ◌-◌, ◌^◌, nat_le, if◌then◌else◌, List, [], ◌∷◌, map}
use Rattle.ap_bits.specs.declared.term.BinOp.{BinOp}
use Rattle.ap_bits.specs.Operations.{binary_value}

-- 0, 1, the highest bit alone and all ones; at one bit the first two are all that there is
abbrev pub corners : ℕ → List ℕ
corners w = if nat_le w 1 then 0 ∷ 1 ∷ [] else 0 ∷ 1 ∷ (2 ^ (w - 1)) ∷ (2 ^ w - 1) ∷ []

-- no place, all but one, as many as the width has, and the most
abbrev pub shifts : ℕ → List ℕ
shifts w = if nat_le w 1 then 0 ∷ 1 ∷ [] else 0 ∷ (w - 1) ∷ w ∷ (2 ^ w - 1) ∷ []

-- no place, all but one, a whole turn, and three places more
abbrev pub turns : ℕ → List ℕ
turns w = if nat_le w 1 then 0 ∷ 1 ∷ [] else 0 ∷ (w - 1) ∷ w ∷ (w + 3) ∷ []

-- a row for each first operand, and in it a value for each second one
abbrev pub grid : BinOp → ℕ → List ℕ → List ℕ → List (List ℕ)
grid op w firsts seconds = map (λ a. map (binary_value op w a) seconds) firsts
