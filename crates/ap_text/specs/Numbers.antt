-- Numbers of plain texts: decimal digits, or 0x and hexadecimal digits of either case; leading zeros are allowed.
use Rattle.std.specs.Prelude.{ℕ, ◌+◌, ◌*◌, ◌^◌, ◌&&◌, ◌++◌, false, nat_eq, nat_lt, List, drop, codes, fold, Option, Some, None, if◌then◌else◌}
use Rattle.std.specs.Fmt.{digits}
use Rattle.std.specs.Char.{is_digit, digit_value}
use Rattle.std.specs.List.{list_all, starts_with}
use Rattle.ap_text.specs.Lines.{is_token}

-- the value of digits in this base, the highest first
abbrev pub value_in : ℕ → List ℕ → ℕ
value_in base digits = fold (λ value digit. value * base + digit_value digit) 0 digits

-- the value of one or more digits of this base, and nothing where the token is something else
abbrev pub digits_in : ℕ → List ℕ → Option ℕ
digits_in base token = if is_token token && list_all (λ b. is_digit b base) token then Some (value_in base token) else None

-- the value that a token spells, and nothing where it isn't of the form of numbers
unfoldable pub spelled_value : List ℕ → Option ℕ
spelled_value token = if starts_with nat_eq token (codes "0x") then digits_in 16 (drop 2 token) else digits_in 10 token

-- a value, where it is at most 2^64 - 1
abbrev pub if_fits : Option ℕ → Option ℕ
if_fits None = None
if_fits (Some v) = if nat_lt v (2 ^ 64) then Some v else None

-- the number that a token is, and nothing where it is none: one above 2^64 - 1 is none
unfoldable pub number_value : List ℕ → Option ℕ
number_value token = if_fits (spelled_value token)

-- what is written of a number in hexadecimal: 0x and lower-case digits, with no leading zeros
abbrev pub hexadecimal : ℕ → List ℕ
hexadecimal v = codes "0x" ++ digits 16 false v
