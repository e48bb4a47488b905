-- Values as two's complement numbers.
use Rattle.std.proofs.Common.{◌≡◌, ℕ, ◌+◌, ◌-◌, ◌/◌, ◌^◌, ◌<◌, ◌≤◌, Bool, true, false, cond, ltb, refl, sym, ap, ◌∙◌, arith}
use Rattle.std.specs.Prelude.{pos, negsuc, ◌-ℤ◌}
use Rattle.std.proofs.lemmas.Int.{ints}
use Rattle.std.proofs.lemmas.Bool.{lt-ltb, le-ltb, ltb-true, ltb-false}
use Rattle.std.proofs.Math.Nat.{mod-eq_of_lt, div-le_self}
use Rattle.ap_bits.proofs.LowBits.{doubled, power_le}
use Rattle.ap_bits.specs.Operations.{signed, bits_of, floor_of, high_bits}

-- 2^w less, where the number is below 2^w
negative : (a m : ℕ) → a < m → pos a -ℤ pos m ≡ negsuc (m - 1 - a)
negative a m h = omega (arith, ints)

pub signed_negative : (w a : ℕ) → a < 2 ^ w → ltb a (2 ^ (w - 1)) ≡ false → signed w a ≡ negsuc (2 ^ w - 1 - a)
signed_negative w a below is = rw is (negative a (2 ^ w) below)

pub signed_positive : (w a : ℕ) → ltb a (2 ^ (w - 1)) ≡ true → signed w a ≡ pos a
signed_positive w a is = rw is refl

-- what a shift to the right leaves of a value whose high bit is 0, and of one whose high bit is 1
pub shifted_positive : (w a b shifted : ℕ) → a < 2 ^ w → ltb a (2 ^ (w - 1)) ≡ true → shifted ≡ cond (ltb b w) (a / 2 ^ b) 0
    → shifted ≡ cond (ltb b w) (bits_of w (floor_of (signed w a) (2 ^ b))) (high_bits w a)
shifted_positive w a b shifted below is e =
    let small : a / 2 ^ b < 2 ^ w = omega (arith, div-le_self a (2 ^ b)) in
    rw (signed_positive w a is, is, mod-eq_of_lt small) e

taken_from : (t : Bool) (m n s : ℕ) → s ≡ cond t n 0 → m - s ≡ cond t (m - n) m
taken_from true m n s e = ap (λ k. m - k) e
taken_from false m n s e = omega arith

pub shifted_negative : (w a b shifted : ℕ) → a < 2 ^ w → ltb a (2 ^ (w - 1)) ≡ false → shifted ≡ cond (ltb b w) ((2 ^ w - 1 - a) / 2 ^ b) 0
    → 2 ^ w - 1 - shifted ≡ cond (ltb b w) (bits_of w (floor_of (signed w a) (2 ^ b))) (high_bits w a)
shifted_negative w a b shifted below is e =
    let small : (2 ^ w - 1 - a) / 2 ^ b < 2 ^ w = omega (arith, div-le_self (2 ^ w - 1 - a) (2 ^ b)) in
    rw (signed_negative w a below is, is, mod-eq_of_lt small) (taken_from (ltb b w) (2 ^ w - 1) ((2 ^ w - 1 - a) / 2 ^ b) shifted e)

-- a value with more bits stands for the same number
pub extended_positive : (from to v : ℕ) → 1 ≤ from → from ≤ to → v < 2 ^ from → ltb v (2 ^ (from - 1)) ≡ true → signed to v ≡ signed from v
extended_positive from to v low order fits is =
    let room : v < 2 ^ (to - 1) = omega (arith, ltb-true v (2 ^ (from - 1)) is, power_le (from - 1) (to - 1) (omega arith)) in
    signed_positive to v (lt-ltb v (2 ^ (to - 1)) room) ∙ sym (signed_positive from v is)

pub extended_fits : (from to v : ℕ) → from ≤ to → v < 2 ^ from → v + (2 ^ to - 2 ^ from) < 2 ^ to
extended_fits from to v order fits = omega (arith, power_le from to order)

pub extended_negative : (from to v : ℕ) → 1 ≤ from → from ≤ to → v < 2 ^ from → ltb v (2 ^ (from - 1)) ≡ false → signed to (v + (2 ^ to - 2 ^ from)) ≡ signed from v
extended_negative from to v low order fits is =
    let longer : 2 ^ from ≤ 2 ^ to = power_le from to order in
    let half : 2 ^ (from - 1) ≤ 2 ^ (to - 1) = power_le (from - 1) (to - 1) (omega arith) in
    let high : 2 ^ (to - 1) ≤ v + (2 ^ to - 2 ^ from) = omega (arith, ltb-false v (2 ^ (from - 1)) is, doubled from low, doubled to (omega arith)) in
    let same : 2 ^ to - 1 - (v + (2 ^ to - 2 ^ from)) ≡ 2 ^ from - 1 - v = omega arith in
    signed_negative to (v + (2 ^ to - 2 ^ from)) (extended_fits from to v order fits) (le-ltb (v + (2 ^ to - 2 ^ from)) (2 ^ (to - 1)) high)
    ∙ ap negsuc same ∙ sym (signed_negative from v fits is)
