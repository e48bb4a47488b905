-- What each operation gives, over whole numbers. A value of w bits is a number below 2^w, and so is each result.
-- The table is the project's own rule.
use Rattle.std.specs.Prelude.{ℕ, zero, suc, ◌+◌, ◌-◌, ◌*◌, ◌/◌, ◌%◌, ◌^◌, ◌==◌, nat_lt, if◌then◌else◌, bit_and, bit_or, bit_xor, ℤ, pos, negsuc, ◌-ℤ◌, int_lt}
use Rattle.ap_bits.specs.declared.term.UnOp.{UnOp}
use Rattle.ap_bits.specs.declared.term.UnOp.TheVariants as one
use Rattle.ap_bits.specs.declared.term.BinOp.{BinOp}
use Rattle.ap_bits.specs.declared.term.BinOp.TheVariants as two

-- how many of the lowest w bits of a are 1
unfoldable pub ones_among : ℕ → ℕ → ℕ
ones_among zero a = 0
ones_among (suc w) a = a % 2 + ones_among w (a / 2)

-- how many of the w bits of a stand above its highest 1; all of them where a is 0
unfoldable pub zeros_above : ℕ → ℕ → ℕ
zeros_above zero a = 0
zeros_above (suc w) a = if nat_lt a (2 ^ w) then zeros_above w a + 1 else 0

-- a value as a two's complement number: from 2^(w - 1) on it stands for 2^w less
abbrev pub signed : ℕ → ℕ → ℤ
signed w a = if nat_lt a (2 ^ (w - 1)) then pos a else pos a -ℤ pos (2 ^ w)

-- the value of w bits that stands for a whole number: the number modulo 2^w; negsuc n is -(n + 1)
abbrev pub bits_of : ℕ → ℤ → ℕ
bits_of w (pos n) = n % 2 ^ w
bits_of w (negsuc n) = 2 ^ w - 1 - n % 2 ^ w

-- a whole number divided and rounded down
abbrev pub floor_of : ℤ → ℕ → ℤ
floor_of (pos n) d = pos (n / d)
floor_of (negsuc n) d = negsuc (n / d)

-- w bits that are all as the high bit of a
abbrev pub high_bits : ℕ → ℕ → ℕ
high_bits w a = if nat_lt a (2 ^ (w - 1)) then 0 else 2 ^ w - 1

-- a value rotated left by k places, where k is at most w
abbrev pub rotated : ℕ → ℕ → ℕ → ℕ
rotated w a k = (a * 2 ^ k + a / 2 ^ (w - k)) % 2 ^ w

-- the operations on one value
abbrev pub unary_value : UnOp → ℕ → ℕ → ℕ
unary_value one.Pop w a = ones_among w a
unary_value one.Clz w a = zeros_above w a
unary_value one.Pass w a = a

-- the operations on two values
abbrev pub binary_value : BinOp → ℕ → ℕ → ℕ → ℕ
binary_value two.Add w a b = (a + b) % 2 ^ w
binary_value two.Sub w a b = (a + 2 ^ w - b) % 2 ^ w
binary_value two.And w a b = bit_and a b
binary_value two.Or w a b = bit_or a b
binary_value two.Xor w a b = bit_xor a b
binary_value two.Eq w a b = if a == b then 1 else 0
binary_value two.Ltu w a b = if nat_lt a b then 1 else 0
binary_value two.Lts w a b = if int_lt (signed w a) (signed w b) then 1 else 0
binary_value two.Sll w a b = if nat_lt b w then a * 2 ^ b % 2 ^ w else 0
binary_value two.Srl w a b = if nat_lt b w then a / 2 ^ b else 0
binary_value two.Sra w a b = if nat_lt b w then bits_of w (floor_of (signed w a) (2 ^ b)) else high_bits w a
binary_value two.Rol w a b = rotated w a (b % w)
binary_value two.Mullo w a b = a * b % 2 ^ w
binary_value two.Mulhi w a b = a * b / 2 ^ w
binary_value two.Divu w a b = if b == 0 then 2 ^ w - 1 else a / b
binary_value two.Remu w a b = if b == 0 then a else a % b

-- a value of `from` bits that is to have `to` bits: each bit above is as its high bit
abbrev pub sign_extended : ℕ → ℕ → ℕ → ℕ
sign_extended v from to = if nat_lt v (2 ^ (from - 1)) then v else v + (2 ^ to - 2 ^ from)
