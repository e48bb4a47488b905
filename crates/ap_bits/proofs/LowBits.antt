-- A word of 64 bits and its w lowest bits.
use Rattle.std.proofs.Common.{◌≡◌, ℕ, zero, suc, ◌+◌, ◌-◌, ◌*◌, ◌/◌, ◌%◌, ◌^◌, ◌<◌, ◌≤◌, bit_and, not, ltb, eqb, refl, sym, ap, ◌∙◌, arith, inl, inr}
use Rattle.std.proofs.lemmas.Bool.{cases_lt, lt-ltb, le-ltb, ne_eqb}
use Rattle.std.proofs.Math.Nat.{add-mul-mod_self_right, div-eq_of_lt, pow-suc, pow-le-pow_right}
use Rattle.std.proofs.Math.Pow.{mod-mod-pow}
use Rattle.std.proofs.lemmas.Nat.{and_mask, le-div, pow-add, pow_pos, one_shl, shl_whole}
use Rattle.std.proofs.lemmas.Nat.Bits.{ones_shr}

pub low_bits : (n w : ℕ) → w ≤ 64 → bit_and (n % 2 ^ 64) (2 ^ w - 1) ≡ n % 2 ^ w
low_bits n w h =
    let split : (64 - w) + w ≡ 64 = omega arith in
    and_mask (n % 2 ^ 64) w ∙ ap (λ k. n % 2 ^ k % 2 ^ w) (sym split) ∙ mod-mod-pow n (64 - w) w

pub mask_word : (w : ℕ) → w ≤ 64 → (2 ^ 64 - 1) / 2 ^ (64 - w) ≡ 2 ^ w - 1
mask_word w h =
    let back : 64 - (64 - w) ≡ w = omega arith in
    ones_shr 64 (64 - w) (omega arith) ∙ ap (λ k. 2 ^ k - 1) back

-- a power of two from the one before it
pub doubled : (w : ℕ) → 1 ≤ w → 2 ^ w ≡ 2 ^ (w - 1) * 2
doubled w h = let back : suc (w - 1) ≡ w = omega arith in ap (λ k. 2 ^ k) (sym back) ∙ pow-suc 2 (w - 1)

pub power_le : (v w : ℕ) → v ≤ w → 2 ^ v ≤ 2 ^ w
power_le v w h = let two : 0 < 2 = omega arith in pow-le-pow_right two h

-- a number of bits is below its power of two
pub below_power : (w : ℕ) → w < 2 ^ w
below_power zero = omega arith
below_power (suc w) = omega (arith, below_power w, pow-suc 2 w)

pub one_below_power : (w : ℕ) → 1 ≤ w → 1 < 2 ^ w
one_below_power w h = omega (arith, below_power w)

one_apart : (p m : ℕ) → 1 ≤ p → p * m ≡ m + (p - 1) * m
one_apart zero m h = absurd (omega arith)
one_apart (suc p) m h = let back : suc p - 1 ≡ p = omega arith in rw back (omega arith)

-- the difference of two words, in w bits
pub difference_word : (a b w : ℕ) → w ≤ 64 → b < 2 ^ w → (a + (2 ^ 64 - b)) % 2 ^ w ≡ (a + 2 ^ w - b) % 2 ^ w
difference_word a b w h below =
    let split : (64 - w) + w ≡ 64 = omega arith in
    let whole : 2 ^ 64 ≡ 2 ^ (64 - w) * 2 ^ w = ap (λ k. 2 ^ k) (sym split) ∙ pow-add 2 (64 - w) w in
    let some : 1 ≤ 2 ^ (64 - w) = pow_pos (64 - w) in
    let more : 2 ^ 64 ≡ 2 ^ w + (2 ^ (64 - w) - 1) * 2 ^ w = whole ∙ one_apart (2 ^ (64 - w)) (2 ^ w) some in
    let same : a + (2 ^ 64 - b) ≡ (a + 2 ^ w - b) + (2 ^ (64 - w) - 1) * 2 ^ w = omega (arith, more) in
    ap (λ n. n % 2 ^ w) same ∙ add-mul-mod_self_right (a + 2 ^ w - b) (2 ^ (64 - w) - 1) (2 ^ w)

-- a number is below another where its quotient by it is 0
pub below_by_quotient : (a m : ℕ) → 0 < m → ltb a m ≡ not (not (eqb (a / m) 0))
below_by_quotient a m some =
    elim (cases_lt a m) [
      | inl below ↦ rw (lt-ltb a m below, div-eq_of_lt below) refl
      | inr above ↦
          let one : 1 ≤ a / m = le-div 1 a m some (omega arith) in
          let more : a / m ≡ 0 → ⊥ = λ none. absurd (omega arith) in
          rw (le-ltb a m above, ne_eqb (a / m) 0 more) refl
    ]

-- a rotation in 128 bits
pub rotated_word : (w a k : ℕ) → w ≤ 64 → a < 2 ^ w → k < w → (a * 2 ^ k % 2 ^ 128 + a / 2 ^ (w - k)) % (1 * 2 ^ w % 2 ^ 128) ≡ (a * 2 ^ k + a / 2 ^ (w - k)) % 2 ^ w
rotated_word w a k h below turn =
    rw (shl_whole a w k 128 below (omega arith), one_shl w 128 (omega arith)) refl
