-- The value of the smallest kind's operation.
use Rattle.std.proofs.Common.{◌≡◌, ℕ, zero, suc, ◌+◌, ◌-◌, ◌%◌, ◌^◌, ◌<◌, sym, arith}
use Rattle.ap_bits.proofs.TermValues.{term_values}
use Rattle.ap_bits.specs.Cards.{operation_value}
use Rattle.circuit_tests.specs.Reverse.{reverse_card}

pub reversed : (w n a b : ℕ) → n < 1 → (b + 2 ^ w - a) % 2 ^ w ≡ operation_value reverse_card w n a b
reversed w zero a b lt = sym (simp term_values)
reversed w (suc n) a b lt = absurd (omega arith)
