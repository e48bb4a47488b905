-- The values of the operations of the tests' kinds.
use Rattle.std.proofs.Common.{◌≡◌, ℕ, zero, suc, ◌+◌, ◌-◌, ◌%◌, ◌^◌, ◌<◌, refl, sym, arith}
use Rattle.ap_bits.proofs.TermValues.{term_values}
use Rattle.ap_bits.specs.Cards.{operation_value}
use Rattle.serve_tests.specs.TestCards.{less_and_sum_card, sum_or_less_value}

pub chosen : (w n a b : ℕ) → n < 2 → sum_or_less_value w n a b ≡ operation_value less_and_sum_card w n a b
chosen w zero a b lt = sym (simp term_values)
chosen w (suc zero) a b lt = sym (simp term_values)
chosen w (suc (suc n)) a b lt = absurd (omega arith)

pub first_of_two : (w n a b : ℕ) → n ≡ 0 → (a + 2 ^ w - b) % 2 ^ w ≡ operation_value less_and_sum_card w n a b
first_of_two w zero a b e = sym (simp term_values)
first_of_two w (suc n) a b e = absurd (omega arith)

pub second_of_two : (w n a b : ℕ) → n < 2 → (n ≡ 0 → ⊥) → (a + b) % 2 ^ w ≡ operation_value less_and_sum_card w n a b
second_of_two w zero a b lt other = absurd (other refl)
second_of_two w (suc zero) a b lt other = sym (simp term_values)
second_of_two w (suc (suc n)) a b lt other = absurd (omega arith)
