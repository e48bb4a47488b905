-- Counts of bits, against those of a machine word.
use Rattle.std.proofs.Common.{◌≡◌, ℕ, zero, suc, ◌+◌, ◌-◌, ◌/◌, ◌%◌, ◌^◌, ◌<◌, ◌≤◌, true, false, cond, ltb, refl, sym, ap, subst, ◌∙◌, arith, inl, inr}
use Rattle.std.proofs.lemmas.Bool.{cases_lt, lt-ltb, le-ltb}
use Rattle.std.proofs.lemmas.Nat.{leading_top, ones-le, pow_pos, shr_below}
use Rattle.std.specs.Prelude.{count_ones}
use lib.Count.{ones_step, count_leading_zeros}
use Rattle.ap_bits.proofs.LowBits.{power_le}
use Rattle.ap_bits.specs.Operations.{ones_among, zeros_above}

half_below : (a w : ℕ) → a < 2 ^ suc w → a / 2 < 2 ^ w
half_below a w h = let one_more : suc w ≡ w + 1 = omega arith in shr_below a w 1 (subst (λ k. a < 2 ^ k) one_more h)

pub ones_among_word : (w a : ℕ) → a < 2 ^ w → ones_among w a ≡ count_ones a
unfolding ones_among
ones_among_word zero a h = omega (arith, ones-le 0 a h)
ones_among_word (suc w) a h = ap (λ n. a % 2 + n) (ones_among_word w (a / 2) (half_below a w h)) ∙ sym (ones_step a)

pub ones_among-le : (w a : ℕ) → ones_among w a ≤ w
unfolding ones_among
ones_among-le zero a = omega arith
ones_among-le (suc w) a = omega (arith, ones_among-le w (a / 2))

pub zeros_above-le : (w a : ℕ) → zeros_above w a ≤ w
unfolding zeros_above
zeros_above-le zero a = omega arith
zeros_above-le (suc w) a = elim (ltb a (2 ^ w)) as (λ b. cond b (zeros_above w a + 1) 0 ≤ suc w) [ true ↦ omega (arith, zeros_above-le w a) | false ↦ omega arith ]

zeros_above_none : (w : ℕ) → zeros_above w 0 ≡ w
unfolding zeros_above
zeros_above_none zero = refl
zeros_above_none (suc w) = rw (lt-ltb 0 (2 ^ w) (pow_pos w)) (omega (arith, zeros_above_none w))

-- the highest 1 stands at place j
zeros_above_top : (w j a : ℕ) → j < w → 2 ^ j ≤ a → a < 2 ^ suc j → zeros_above w a + suc j ≡ w
unfolding zeros_above
zeros_above_top zero j a h low high = absurd (omega arith)
zeros_above_top (suc w) j a h low high =
    elim (cases_lt j w) [
      | inl below ↦ rw (lt-ltb a (2 ^ w) (omega (arith, power_le (suc j) w below))) (omega (arith, zeros_above_top w j a below low high))
      | inr above ↦ let same : j ≡ w = omega arith in rw (le-ltb a (2 ^ w) (subst (λ k. 2 ^ k ≤ a) same low)) (omega arith)
    ]

pub zeros_above_word : (w a : ℕ) → w ≤ 64 → a < 2 ^ w → (64 - w ≤ count_leading_zeros 64 a) × (count_leading_zeros 64 a - (64 - w) ≡ zeros_above w a)
unfolding count_leading_zeros
zeros_above_word w zero h below = rw (zeros_above_none w) (omega arith, omega arith)
zeros_above_word w (suc a) h below =
    let top = leading_top 64 (suc a) (omega arith) (omega (arith, power_le w 64 h)) in
    let within : top.0 < w = elim (cases_lt top.0 w) [ inl p ↦ p | inr p ↦ absurd (omega (arith, power_le w top.0 p, top.2)) ] in
    let above = zeros_above_top w top.0 (suc a) within top.2 top.3 in
    (omega (arith, top.1), omega (arith, top.1, above))
