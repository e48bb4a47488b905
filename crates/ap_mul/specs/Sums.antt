-- A sum of w bits, and what it carries.
use Rattle.std.specs.Prelude.{ℕ, ◌+◌, ◌/◌, ◌%◌, ◌^◌, ◌==◌, if◌then◌else◌, bit_and, bit_or}

abbrev pub sum_at : ℕ → ℕ → ℕ → ℕ
sum_at w a b = (a + b) % 2 ^ w

-- the bit above the sum
abbrev pub carry_at : ℕ → ℕ → ℕ → ℕ
carry_at w a b = (a + b) / 2 ^ w

-- the same by the highest bits of the sum and of the operands: both where the sum's is 1, else either
abbrev pub carry_by : ℕ → ℕ → ℕ → ℕ
carry_by sum a b = if sum == 1 then bit_and a b else bit_or a b
