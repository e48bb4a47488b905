-- Slices of a value, as cells give them and as functions of the number.
use Rattle.std.proofs.Common.{◌≡◌, ℕ, ◌+◌, ◌-◌, ◌/◌, ◌%◌, ◌^◌, ◌<◌, ◌≤◌, arith, refl, subst}
use Rattle.std.proofs.Math.Nat.{div-one, mod-eq_of_lt}
use Rattle.std.proofs.lemmas.Nat.{shr_below}

-- the lowest bits
pub lower_cut : (x count : ℕ) → 1 ≤ count → x / 2 ^ 0 % 2 ^ (count - 1 + 1 - 0) ≡ x % 2 ^ count
lower_cut x count some =
    let bits : count - 1 + 1 - 0 ≡ count = omega arith in
    rw (bits, div-one) refl

-- the bits from a place on
pub upper_cut : (x w from : ℕ) → x < 2 ^ w → from < w → x / 2 ^ from % 2 ^ (w - 1 + 1 - from) ≡ x / 2 ^ from
upper_cut x w from fits within =
    let bits : w - 1 + 1 - from ≡ w - from = omega arith in
    let all : w ≡ (w - from) + from = omega arith in
    let small : x / 2 ^ from < 2 ^ (w - from) = shr_below x (w - from) from (subst (λ n. x < 2 ^ n) all fits) in
    rw (bits, mod-eq_of_lt small) refl

-- one bit
pub one_cut : (x place : ℕ) → x / 2 ^ place % 2 ^ (place + 1 - place) ≡ x / 2 ^ place % 2
one_cut x place =
    let one : place + 1 - place ≡ 1 = omega arith in
    rw one refl
