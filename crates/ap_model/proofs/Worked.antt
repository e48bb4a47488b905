-- What the units of the worked processor give.
use Rattle.std.proofs.Common.{◌≡◌, ℕ, ◌+◌, ◌*◌, ◌%◌, ◌^◌}
use Rattle.ap_bits.proofs.TermValues.{term_values}
use Rattle.ap_model.specs.Examples.{example_cards, processor, two_memories, two_ports}
use Rattle.ap_model.specs.Fire.{unit_value}

pub sum : (a b : ℕ) → unit_value processor example_cards 0 0 a b ≡ (a + b) % 2 ^ 16
unfolding unit_value
sum a b = simp term_values

pub sum_two : (a b : ℕ) → unit_value two_ports example_cards 0 0 a b ≡ (a + b) % 2 ^ 16
unfolding unit_value
sum_two a b = simp term_values

pub product : (a b : ℕ) → unit_value processor example_cards 2 0 a b ≡ a * b % 2 ^ 16
unfolding unit_value
product a b = simp term_values

pub equal : unit_value processor example_cards 0 5 0 0 ≡ 1
unfolding unit_value
equal = simp term_values

pub sum_waiting : (a b : ℕ) → unit_value two_memories example_cards 0 0 a b ≡ (a + b) % 2 ^ 16
unfolding unit_value
sum_waiting a b = simp term_values

pub product_waiting : (a b : ℕ) → unit_value two_memories example_cards 2 0 a b ≡ a * b % 2 ^ 16
unfolding unit_value
product_waiting a b = simp term_values
