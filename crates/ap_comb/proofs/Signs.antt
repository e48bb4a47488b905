-- A signed comparison by the signs.
use Rattle.std.proofs.Common.{◌≡◌, ℕ, ◌-◌, ◌*◌, ◌/◌, ◌%◌, ◌^◌, ◌<◌, ◌≤◌, refl, ap, sym, ◌∙◌, arith, suc, ⊎_elim}
use Rattle.std.specs.Prelude.{pos, negsuc, ◌-ℤ◌, nat_lt, ◌==◌, if◌then◌else◌, bit_xor, int_lt}
use Rattle.std.proofs.lemmas.Int.{ints}
use Rattle.std.proofs.lemmas.Bool.{cases_lt, lt-ltb, le-ltb}
use Rattle.std.proofs.lemmas.Bool.Decides.{nat_tests}
use Rattle.std.proofs.lemmas.Nat.{le-div, div_below, pow_pos}
use Rattle.std.proofs.Math.Nat.{div-eq_of_lt, pow-suc}
use Rattle.ap_bits.specs.Operations.{signed}

-- 2^w less, where the number is below 2^w
negative : (a m : ℕ) → a < m → pos a -ℤ pos m ≡ negsuc (m - 1 - a)
negative a m h = omega (arith, ints)

module _ (w : ℕ) (low : 1 ≤ w) where
  double : 2 ^ w ≡ 2 ^ (w - 1) * 2
  double = let back : suc (w - 1) ≡ w = omega arith in ap (λ k. 2 ^ k) (sym back) ∙ pow-suc 2 (w - 1)

  sign_below : (a : ℕ) → a < 2 ^ (w - 1) → a / 2 ^ (w - 1) % 2 ≡ 0
  sign_below a h = rw (div-eq_of_lt h) refl

  sign_above : (a : ℕ) → 2 ^ (w - 1) ≤ a → a < 2 ^ w → a / 2 ^ (w - 1) % 2 ≡ 1
  sign_above a h fits =
      let some : 0 < 2 ^ (w - 1) = pow_pos (w - 1) in
      let least : 1 ≤ a / 2 ^ (w - 1) = le-div 1 a (2 ^ (w - 1)) some (omega arith) in
      let most : a / 2 ^ (w - 1) < 2 = div_below a (2 ^ (w - 1)) 2 some (omega (arith, double)) in
      let one : a / 2 ^ (w - 1) ≡ 1 = omega arith in
      rw one refl

  signed_below : (a : ℕ) → a < 2 ^ (w - 1) → signed w a ≡ pos a
  signed_below a h = rw (lt-ltb a (2 ^ (w - 1)) h) refl

  signed_above : (a : ℕ) → 2 ^ (w - 1) ≤ a → a < 2 ^ w → signed w a ≡ negsuc (2 ^ w - 1 - a)
  signed_above a h fits = rw (le-ltb a (2 ^ (w - 1)) h) (negative a (2 ^ w) fits)

  turned : (a b : ℕ) → a < 2 ^ w → b < 2 ^ w → nat_lt (2 ^ w - 1 - b) (2 ^ w - 1 - a) ≡ nat_lt a b
  turned a b p q = turned_at (2 ^ w) a b p q
    where
      turned_at : (m a b : ℕ) → a < m → b < m → nat_lt (m - 1 - b) (m - 1 - a) ≡ nat_lt a b
      turned_at m a b p q = grind (arith, nat_tests)

  -- where the signs differ the first sign tells, else the values do
  pub signs_tell : (a b : ℕ) → a < 2 ^ w → b < 2 ^ w
      → (if bit_xor (a / 2 ^ (w - 1) % 2) (b / 2 ^ (w - 1) % 2) == 1 then a / 2 ^ (w - 1) % 2 else (if nat_lt a b then 1 else 0)) ≡ (if int_lt (signed w a) (signed w b) then 1 else 0)
  signs_tell a b p q =
      ⊎_elim
      (λ l. ⊎_elim
      (λ m. rw (sign_below a l, sign_below b m, signed_below a l, signed_below b m) refl)
      (λ m. rw (sign_below a l, sign_above b m q, signed_below a l, signed_above b m q) refl)
      (cases_lt b (2 ^ (w - 1))))
      (λ l. ⊎_elim
      (λ m. rw (sign_above a l p, sign_below b m, signed_above a l p, signed_below b m) refl)
      (λ m. rw (sign_above a l p, sign_above b m q, signed_above a l p, signed_above b m q, ← turned a b p q) refl)
      (cases_lt b (2 ^ (w - 1))))
      (cases_lt a (2 ^ (w - 1)))
