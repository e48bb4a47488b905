-- The running or from the top. Where a value's highest 1 stands below place l, ones reach down from there.
use Rattle.std.proofs.Common.{◌≡◌, ℕ, zero, suc, ◌+◌, ◌-◌, ◌*◌, ◌/◌, ◌%◌, ◌^◌, ◌<◌, ◌≤◌, sym, ap, subst, ◌∙◌, arith, inl, inr}
use Rattle.std.specs.Prelude.{bit_or}
use Rattle.std.proofs.Math.Nat.{pow-suc, pow-le-pow_right, div-le_self}
use Rattle.std.proofs.lemmas.Bool.{cases_lt, lt-ltb, le-ltb}
use Rattle.std.proofs.lemmas.Nat.{pow_pos, pow-add, shr_below, shr_split, mod_below, le-div, mul-le, or_lt, or_block, le_or_l, le_or_r}
use Rattle.ap_bits.specs.Operations.{zeros_above}

-- the value is below 2^l, and its bits below place l are ones as far as the reach goes
abbrev pub IsRun : ℕ → ℕ → ℕ → Type 0
IsRun l reach r = (2 ^ l - 2 ^ (l - reach) ≤ r) × (r < 2 ^ l)

-- the highest 1 of a value is a run of its own
pub run_start : (w a : ℕ) → a < 2 ^ w → IsRun (w - zeros_above w a) 1 a
unfolding zeros_above
run_start zero a fits = (omega arith, fits)
run_start (suc w) a fits =
    elim (cases_lt a (2 ^ w)) [
      | inl below ↦
          let same : suc w - (zeros_above w a + 1) ≡ w - zeros_above w a = omega arith in
          rw (lt-ltb a (2 ^ w) below, same) (run_start w a below)
      | inr above ↦
          let all : suc w - 0 ≡ suc w = omega arith in
          let one_less : suc w - 1 ≡ w = omega arith in
          rw (le-ltb a (2 ^ w) above, all, one_less) (omega (arith, pow-suc 2 w), fits)
    ]

power_le : (j k : ℕ) → j ≤ k → 2 ^ j ≤ 2 ^ k
power_le j k h = let two : 0 < 2 = omega arith in pow-le-pow_right two h

-- what is moved down has ones below those that the value has
moved_down : (l reach r : ℕ) → reach ≤ l → 2 ^ l - 2 ^ (l - reach) ≤ r → 2 ^ (l - reach) - 2 ^ (l - reach * 2) ≤ r / 2 ^ reach
moved_down l reach r within low =
    let k : ℕ = l - reach in
    let m : ℕ = l - reach * 2 in
    let width : k + reach ≡ l = omega arith in
    let product : 2 ^ l ≡ 2 ^ k * 2 ^ reach = ap (λ n. 2 ^ n) (sym width) ∙ pow-add 2 k reach in
    let more : 2 ^ k ≤ 2 ^ m * 2 ^ reach = omega (arith, power_le k (m + reach) (omega arith), pow-add 2 m reach) in
    let d : ℕ = 2 ^ k - 2 ^ m in
    let difference : 2 ^ k ≡ d + 2 ^ m = omega (arith, power_le m k (omega arith)) in
    let scaled : 2 ^ k * 2 ^ reach ≡ d * 2 ^ reach + 2 ^ m * 2 ^ reach = ap (λ n. n * 2 ^ reach) difference ∙ omega arith in
    le-div d r (2 ^ reach) (pow_pos reach) (omega arith)

-- one round more
run_within : (l reach r : ℕ) → reach ≤ l → IsRun l reach r → 2 ^ l - 2 ^ (l - reach * 2) ≤ bit_or r (r / 2 ^ reach)
run_within l reach r within run =
    let k : ℕ = l - reach in
    let width : k + reach ≡ l = omega arith in
    let turned : reach + k ≡ l = omega arith in
    let some = pow_pos reach in
    let product : 2 ^ l ≡ 2 ^ reach * 2 ^ k = ap (λ n. 2 ^ n) (sym turned) ∙ pow-add 2 reach k in
    let one_less : 2 ^ reach ≡ (2 ^ reach - 1) + 1 = omega arith in
    let scaled : 2 ^ reach * 2 ^ k ≡ (2 ^ reach - 1) * 2 ^ k + 2 ^ k = ap (λ n. n * 2 ^ k) one_less ∙ omega arith in
    let high : 2 ^ reach - 1 ≤ r / 2 ^ k = le-div (2 ^ reach - 1) r (2 ^ k) (pow_pos k) (omega (arith, run.0)) in
    let low : r / 2 ^ reach < 2 ^ k = shr_below r k reach (subst (λ n. r < 2 ^ n) (sym width) run.1) in
    let parts : bit_or r (r / 2 ^ reach) ≡ bit_or (r / 2 ^ k) 0 * 2 ^ k + bit_or (r % 2 ^ k) (r / 2 ^ reach) =
    ap (λ n. bit_or n (r / 2 ^ reach)) (sym (shr_split r k)) ∙ ap (λ n. bit_or (r / 2 ^ k * 2 ^ k + r % 2 ^ k) n) (omega arith)
    ∙ or_block k (r / 2 ^ k) 0 (r % 2 ^ k) (r / 2 ^ reach) (mod_below r (2 ^ k) (pow_pos k)) low in
    let upper : (2 ^ reach - 1) * 2 ^ k ≤ bit_or (r / 2 ^ k) 0 * 2 ^ k = mul-le (2 ^ reach - 1) (2 ^ k) (bit_or (r / 2 ^ k) 0) (2 ^ k) (omega (arith, le_or_l (r / 2 ^ k) 0)) (omega arith) in
    omega (arith, parts, le_or_r (r % 2 ^ k) (r / 2 ^ reach), moved_down l reach r within run.0)

pub run_more : (l reach r : ℕ) → IsRun l reach r → IsRun l (reach * 2) (bit_or r (r / 2 ^ reach))
run_more l reach r run = (
  elim (cases_lt l reach) [
    | inl far ↦
        let none : l - reach ≡ 0 = omega arith in
        let none_more : l - reach * 2 ≡ 0 = omega arith in
        let all : 2 ^ l - 1 ≤ r = subst (λ n. 2 ^ l - 2 ^ n ≤ r) none run.0 in
        rw none_more (omega (arith, le_or_l r (r / 2 ^ reach)))
    | inr near ↦ run_within l reach r near run
  ],
  or_lt l r (r / 2 ^ reach) run.1 (omega (arith, run.1, div-le_self r (2 ^ reach))),
)

-- a run that reaches all the way is all ones
pub run_end : (l reach r : ℕ) → l ≤ reach → IsRun l reach r → r ≡ 2 ^ l - 1
run_end l reach r far run =
    let none : l - reach ≡ 0 = omega arith in
    let all : 2 ^ l - 1 ≤ r = subst (λ n. 2 ^ l - 2 ^ n ≤ r) none run.0 in
    omega (arith, run.1)
