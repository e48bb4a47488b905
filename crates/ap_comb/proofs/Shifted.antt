-- The shifter's operations by its control: the two bits of the operation's number and what comes in above.
use Rattle.std.proofs.Common.{◌≡◌, ℕ, zero, suc, ◌+◌, ◌-◌, ◌*◌, ◌/◌, ◌%◌, ◌^◌, ◌<◌, ◌≤◌, refl, sym, ap, subst, ◌∙◌, arith, inl, inr, zero-add}
use Rattle.std.specs.Prelude.{◌==◌, nat_lt, if◌then◌else◌, slice_get, Some, bit_and, bit_or, bit_xor, pos, negsuc, ◌-ℤ◌}
use Rattle.std.proofs.Math.Nat.{mod-eq_of_lt, div-eq_of_lt, div-le_self}
use Rattle.std.proofs.lemmas.Int.{ints}
use Rattle.std.proofs.lemmas.Bool.{cases_lt, lt-ltb, le-ltb, ne_eqb}
use Rattle.std.proofs.lemmas.Nat.{pow_pos, pow-add, le-div, shr_high, shr_split, mod_below, shr_below}
use Rattle.ap_bits.specs.declared.term.BinOp.{BinOp}
use Rattle.ap_bits.specs.declared.term.BinOp.TheVariants.{Sll, Srl, Sra, Rol}
use Rattle.ap_bits.specs.Operations.{binary_value, signed, bits_of, floor_of, high_bits}
use Rattle.ap_comb.specs.Moves.{moved_left, moved_right}
use Rattle.ap_comb.specs.Shifts.{shift_ops}

-- a value is below a power where its upper part is 0
pub within_test : (b m : ℕ) → 0 < m → (b / m == 0) ≡ nat_lt b m
within_test b m some =
    elim (cases_lt b m) [
      | inl below ↦ rw (lt-ltb b m below, div-eq_of_lt below) refl
      | inr above ↦
          let one : 1 ≤ b / m = le-div 1 b m some (omega arith) in
          let more : b / m ≡ 0 → ⊥ = λ none. absurd (omega arith) in
          rw (le-ltb b m above, ne_eqb (b / m) 0 more) refl
    ]

-- the high bit of a value
sign_low : (w a : ℕ) → a < 2 ^ (w - 1) → a / 2 ^ (w - 1) % 2 ≡ 0
sign_low w a below = rw (div-eq_of_lt below) refl

sign_high : (w a : ℕ) → 1 ≤ w → a < 2 ^ w → 2 ^ (w - 1) ≤ a → a / 2 ^ (w - 1) % 2 ≡ 1
sign_high w a some fits above =
    let back : w ≡ 1 + (w - 1) = omega arith in
    let small : a / 2 ^ (w - 1) < 2 ^ 1 = shr_below a 1 (w - 1) (subst (λ n. a < 2 ^ n) back fits) in
    let one : 1 ≤ a / 2 ^ (w - 1) = le-div 1 a (2 ^ (w - 1)) (pow_pos (w - 1)) (omega arith) in
    let is : a / 2 ^ (w - 1) ≡ 1 = omega arith in
    rw is refl

-- a negative value shifted to the right
below_zero : (a m : ℕ) → a < m → pos a -ℤ pos m ≡ negsuc (m - 1 - a)
below_zero a m h = omega (arith, ints)

shifted_ones : (w a b : ℕ) → a < 2 ^ w → b ≤ w → (2 ^ w - 1 - a) / 2 ^ b ≡ 2 ^ (w - b) - 1 - a / 2 ^ b
shifted_ones w a b fits within =
    let q : ℕ = a / 2 ^ b in
    let r : ℕ = a % 2 ^ b in
    let d : ℕ = 2 ^ (w - b) - 1 - q in
    let width : (w - b) + b ≡ w = omega arith in
    let product : 2 ^ w ≡ 2 ^ (w - b) * 2 ^ b = ap (λ n. 2 ^ n) (sym width) ∙ pow-add 2 (w - b) b in
    let small : q < 2 ^ (w - b) = shr_below a (w - b) b (subst (λ n. a < 2 ^ n) (sym width) fits) in
    let rest : r < 2 ^ b = mod_below a (2 ^ b) (pow_pos b) in
    let split : q * 2 ^ b + r ≡ a = shr_split a b in
    let whole : 2 ^ (w - b) ≡ d + 1 + q = omega arith in
    let scaled : 2 ^ (w - b) * 2 ^ b ≡ d * 2 ^ b + 2 ^ b + q * 2 ^ b = ap (λ n. n * 2 ^ b) whole ∙ omega arith in
    let parts : 2 ^ w - 1 - a ≡ d * 2 ^ b + (2 ^ b - 1 - r) = omega arith in
    ap (λ n. n / 2 ^ b) parts ∙ shr_high d b (2 ^ b - 1 - r) (omega arith)

filled_is_signed : (w a b : ℕ) → a < 2 ^ w → b ≤ w → 2 ^ w - 2 ^ (w - b) + a / 2 ^ b ≡ 2 ^ w - 1 - (2 ^ w - 1 - a) / 2 ^ b % 2 ^ w
filled_is_signed w a b fits within =
    let width : (w - b) + b ≡ w = omega arith in
    let small : a / 2 ^ b < 2 ^ (w - b) = shr_below a (w - b) b (subst (λ n. a < 2 ^ n) (sym width) fits) in
    let fits_too : (2 ^ w - 1 - a) / 2 ^ b < 2 ^ w = omega (arith, div-le_self (2 ^ w - 1 - a) (2 ^ b)) in
    let shorter : 2 ^ (w - b) ≤ 2 ^ w = omega (arith, div-le_self (2 ^ w) (2 ^ b), whole_div w b within) in
    rw (mod-eq_of_lt fits_too, shifted_ones w a b fits within) (omega arith)
  where
    whole_div : (w b : ℕ) → b ≤ w → 2 ^ w / 2 ^ b ≡ 2 ^ (w - b)
    whole_div w b within =
        let width : (w - b) + b ≡ w = omega arith in
        let none = pow_pos b in
        ap (λ n. n / 2 ^ b) (ap (λ n. 2 ^ n) (sym width) ∙ pow-add 2 (w - b) b ∙ omega arith) ∙ shr_high (2 ^ (w - b)) b 0 none

-- each operation where the shift is below the width, and where it isn't
signed_near : (w a b : ℕ) → 1 ≤ w → a < 2 ^ w → b < w → moved_right (a / 2 ^ (w - 1) % 2 == 1) w a b ≡ bits_of w (floor_of (signed w a) (2 ^ b))
signed_near w a b some fits near =
    let small : a / 2 ^ b < 2 ^ w = omega (arith, div-le_self a (2 ^ b)) in
    elim (cases_lt a (2 ^ (w - 1))) [
      | inl low ↦ rw (sign_low w a low, lt-ltb a (2 ^ (w - 1)) low) (zero-add (a / 2 ^ b) ∙ sym (mod-eq_of_lt small))
      | inr high ↦ rw (sign_high w a some fits high, le-ltb a (2 ^ (w - 1)) high, below_zero a (2 ^ w) fits) (filled_is_signed w a b fits (omega arith))
    ]

signed_far : (w a : ℕ) → 1 ≤ w → a < 2 ^ w → (if a / 2 ^ (w - 1) % 2 == 1 then 2 ^ w - 1 else 0) ≡ high_bits w a
signed_far w a some fits =
    elim (cases_lt a (2 ^ (w - 1))) [
      | inl low ↦ rw (sign_low w a low, lt-ltb a (2 ^ (w - 1)) low) refl
      | inr high ↦ rw (sign_high w a some fits high, le-ltb a (2 ^ (w - 1)) high) refl
    ]

-- one bit under a mask of one
masked_bit : (n : ℕ) → n < 2 → bit_and 1 n ≡ n
masked_bit zero h = refl
masked_bit (suc zero) h = refl
masked_bit (suc (suc n)) h = absurd (omega arith)

-- what the cells of the shifter give for an operation
abbrev shown : ℕ → ℕ → ℕ → ℕ → ℕ
shown s w a b = if bit_or (if nat_lt b w then 1 else 0) (bit_and (s / 2 ^ 0 % 2) (s / 2 ^ 1 % 2)) == 1
    then (if bit_xor (s / 2 ^ 0 % 2) (s / 2 ^ 1 % 2) == 1 then moved_right (bit_and (s / 2 ^ 1 % 2) (a / 2 ^ (w - 1) % 2) == 1) w a (b % w) else moved_left (s / 2 ^ 1 % 2 == 1) w a (b % w))
    else (if bit_and (s / 2 ^ 1 % 2) (a / 2 ^ (w - 1) % 2) == 1 then 2 ^ w - 1 else 0)

shown_sll : (w a b : ℕ) → shown 0 w a b ≡ binary_value Sll w a b
shown_sll w a b =
    elim (cases_lt b w) [
      | inl near ↦ rw (lt-ltb b w near, mod-eq_of_lt near) refl
      | inr far ↦ rw (le-ltb b w far) refl
    ]

shown_srl : (w a b : ℕ) → shown 1 w a b ≡ binary_value Srl w a b
shown_srl w a b =
    elim (cases_lt b w) [
      | inl near ↦ rw (lt-ltb b w near, mod-eq_of_lt near) (zero-add (a / 2 ^ b))
      | inr far ↦ rw (le-ltb b w far) refl
    ]

shown_sra : (w a b : ℕ) → 1 ≤ w → a < 2 ^ w → shown 2 w a b ≡ binary_value Sra w a b
shown_sra w a b some fits =
    let one = masked_bit (a / 2 ^ (w - 1) % 2) (mod_below (a / 2 ^ (w - 1)) 2 (omega arith)) in
    elim (cases_lt b w) [
      | inl near ↦ rw (one, lt-ltb b w near, mod-eq_of_lt near) (signed_near w a b some fits near)
      | inr far ↦ rw (one, le-ltb b w far) (signed_far w a some fits)
    ]

shown_rol : (w a b : ℕ) → shown 3 w a b ≡ binary_value Rol w a b
shown_rol w a b =
    elim (cases_lt b w) [
      | inl near ↦ rw (lt-ltb b w near) refl
      | inr far ↦ rw (le-ltb b w far) refl
    ]

pub shown_is : (s : ℕ) (op : BinOp) (w a b : ℕ) → slice_get shift_ops s ≡ Some op → 1 ≤ w → a < 2 ^ w
    → (if bit_or (if nat_lt b w then 1 else 0) (bit_and (s / 2 ^ 0 % 2) (s / 2 ^ 1 % 2)) == 1
    then (if bit_xor (s / 2 ^ 0 % 2) (s / 2 ^ 1 % 2) == 1 then moved_right (bit_and (s / 2 ^ 1 % 2) (a / 2 ^ (w - 1) % 2) == 1) w a (b % w) else moved_left (s / 2 ^ 1 % 2 == 1) w a (b % w))
    else (if bit_and (s / 2 ^ 1 % 2) (a / 2 ^ (w - 1) % 2) == 1 then 2 ^ w - 1 else 0)) ≡ binary_value op w a b
shown_is zero op w a b at some fits = let same : Sll ≡ op = cc in subst (λ o. shown 0 w a b ≡ binary_value o w a b) same (shown_sll w a b)
shown_is (suc zero) op w a b at some fits = let same : Srl ≡ op = cc in subst (λ o. shown 1 w a b ≡ binary_value o w a b) same (shown_srl w a b)
shown_is (suc (suc zero)) op w a b at some fits = let same : Sra ≡ op = cc in subst (λ o. shown 2 w a b ≡ binary_value o w a b) same (shown_sra w a b some fits)
shown_is (suc (suc (suc zero))) op w a b at some fits = let same : Rol ≡ op = cc in subst (λ o. shown 3 w a b ≡ binary_value o w a b) same (shown_rol w a b)
shown_is (suc (suc (suc (suc s)))) op w a b at some fits = cc
