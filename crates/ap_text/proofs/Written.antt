-- A number that was written is read as itself.
use Rattle.std.proofs.Common.{◌≡◌, ℕ, ◌+◌, ◌*◌, ◌^◌, ◌<◌, true, false, ◌&&◌, eqb, List, [], ◌∷◌, Some, refl, sym, subst, ap, arith}
use Rattle.std.specs.Prelude.{codes, fold, nat_eq}
use Rattle.std.specs.Char.{digit_value, is_digit}
use Rattle.std.specs.List.{list_all, starts_with}
use Rattle.std.specs.Fmt.{decimal, digits}
use Rattle.std.specs.Str.Parse.{IsNumeral, AllDigits, digits_value, digits_value_after}
use Rattle.std.proofs.lemmas.Bool.{and_left, and_right, lt-ltb, ne_eqb}
use Rattle.std.proofs.lemmas.Fmt.{decimal_is_IsNumeral, digits_is_IsNumeral}
use Rattle.ap_text.specs.Numbers.{digits_in, spelled_value, number_value, hexadecimal}

all_digits : (base : ℕ) (ds : List ℕ) → AllDigits base ds → list_all (λ b. is_digit b base) ds ≡ true
all_digits base [] h = refl
all_digits base (d ∷ ds) h = rw (lt-ltb (digit_value d) base h.0) (all_digits base ds h.1)

value_after : (base v : ℕ) (ds : List ℕ) → fold (λ value digit. value * base + digit_value digit) v ds ≡ digits_value_after base v ds
value_after base v [] = refl
value_after base v (d ∷ ds) = value_after base (v * base + digit_value d) ds

-- digits are read with their value
digits_read : (base : ℕ) (ds : List ℕ) → IsNumeral base ds → digits_in base ds ≡ Some (digits_value base ds)
digits_read base [] h = absurd (omega (arith, h.0))
digits_read base (d ∷ ds) h = rw (all_digits base (d ∷ ds) h.1) (ap Some (value_after base 0 (d ∷ ds)))

-- no decimal digit is an x
no_x : (d : ℕ) → digit_value d < 10 → 120 ≡ d → ⊥
no_x d h e = let wrong : digit_value 120 < 10 = subst (λ b. digit_value b < 10) (sym e) h in omega arith

not_prefixed : (ds : List ℕ) → AllDigits 10 ds → starts_with nat_eq ds (codes "0x") ≡ false
not_prefixed [] h = refl
not_prefixed (c ∷ []) h = and_right (eqb 48 c) false refl
not_prefixed (c ∷ d ∷ ds) h = and_right (eqb 48 c) (eqb 120 d && true) (and_left (eqb 120 d) true (ne_eqb 120 d (no_x d h.1.0)))

pub number_value-decimal : (v : ℕ) → v < 2 ^ 64 → number_value (decimal v) ≡ Some v
unfolding number_value spelled_value
number_value-decimal v small =
    let written = decimal_is_IsNumeral v small in
    rw (not_prefixed (decimal v) written.0.1, digits_read 10 (decimal v) written.0, written.1, lt-ltb v (2 ^ 64) small) refl

pub number_value-hexadecimal : (v : ℕ) → v < 2 ^ 64 → number_value (hexadecimal v) ≡ Some v
unfolding number_value spelled_value
number_value-hexadecimal v small =
    let written = digits_is_IsNumeral 16 false (omega arith) (omega arith) v (omega arith) in
    rw (digits_read 16 (digits 16 false v) written.0, written.1, lt-ltb v (2 ^ 64) small) refl

pub ruleset written = (number_value-decimal, number_value-hexadecimal)
