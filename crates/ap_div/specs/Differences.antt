-- A difference of w bits, and whether it isn't below 0.
use Rattle.std.specs.Prelude.{ℕ, ◌+◌, ◌-◌, ◌%◌, ◌^◌, ◌==◌, nat_lt, if◌then◌else◌, bit_and, bit_or}

abbrev pub difference_at : ℕ → ℕ → ℕ → ℕ
difference_at w a b = (a + 2 ^ w - b) % 2 ^ w

-- 1 where b isn't above a
abbrev pub cover_of : ℕ → ℕ → ℕ
cover_of a b = if nat_lt a b then 0 else 1

-- the same by the highest bits of the difference and of the operands
abbrev pub cover_by : ℕ → ℕ → ℕ → ℕ
cover_by difference a b = if difference == 1 then bit_and a (1 - b) else bit_or a (1 - b)
