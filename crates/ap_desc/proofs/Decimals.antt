-- The decimal digits of a number are digits, and a token.
use Rattle.std.proofs.Common.{◌≡◌, ℕ, ◌+◌, ◌*◌, ◌<◌, ◌^◌, List, [], ◌∷◌, Bool, true, length, refl, arith, rules}
use Rattle.std.specs.Prelude.{fold}
use Rattle.std.specs.Fmt.{decimal}
use Rattle.std.specs.Char.{is_digit, digit_value}
use Rattle.std.specs.List.{list_all}
use Rattle.std.proofs.lemmas.Fmt.{digits_decimal, decimal_nonempty}
use Rattle.std.proofs.lemmas.Str.Parse.{IsNumeralModel, numerals_by_fold}
use Rattle.ap_text.specs.Lines.{is_token}

-- whether all bytes are decimal digits
abbrev pub are_digits : List ℕ → Bool
are_digits bytes = list_all (λ b. is_digit b 10) bytes

abbrev value_from : ℕ → List ℕ → ℕ
value_from value bytes = fold (λ value digit. value * 10 + digit_value digit) value bytes

pub digits_model : IsNumeralModel (λ bytes. are_digits bytes ≡ true) (value_from 0)
digits_model = numerals_by_fold _ (search rules) value_from (search rules)

nonempty_is_token : (bytes : List ℕ) → 0 < length bytes → is_token bytes ≡ true
nonempty_is_token [] h = absurd (omega arith)
nonempty_is_token (b ∷ bytes) h = refl

pub decimal_are_digits : (n : ℕ) → n < 2 ^ 64 → are_digits (decimal n) ≡ true
decimal_are_digits n h = digits_decimal digits_model n h

pub decimal_is_token : (n : ℕ) → n < 2 ^ 64 → is_token (decimal n) ≡ true
decimal_is_token n h = nonempty_is_token (decimal n) (decimal_nonempty n h)
