-- A value that is moved twice is moved by the sum of the places, and what a cell that sets parts side by side gives.
use Rattle.std.proofs.Common.{◌≡◌, ℕ, ◌+◌, ◌-◌, ◌*◌, ◌/◌, ◌%◌, ◌^◌, ◌<◌, ◌≤◌, Bool, true, false, sym, ap, subst, ◌∙◌, arith, zero-add}
use Rattle.std.specs.Prelude.{◌==◌, if◌then◌else◌}
use Rattle.std.proofs.Math.Nat.{mod-eq_of_lt, div-eq_of_lt, mul-add-div_right}
use Rattle.std.proofs.lemmas.Nat.{pow_pos, pow-add, shr-shr, shr_split, shr_below, mod_below, mul-add-lt, shr_high, mod_low, mul-mod_first}
use Rattle.ap_bits.specs.Operations.{rotated}
use Rattle.ap_comb.specs.declared.levels.Way.{Way}
use Rattle.ap_comb.specs.declared.levels.Way.TheVariants as way
use Rattle.ap_comb.specs.Moves.{moved_left, moved_right, moved}

-- two parts side by side are as wide as both
beside_fits : (m k h l : ℕ) → h < 2 ^ m → l < 2 ^ k → h * 2 ^ k + l < 2 ^ (m + k)
beside_fits m k h l high low = omega (arith, mul-add-lt h (2 ^ k) l (2 ^ m) high low, pow-add 2 m k)

-- a value that is rotated as far as its high part is wide has its two parts exchanged
rotated_parts : (m k h l : ℕ) → h < 2 ^ k → l < 2 ^ m → rotated (m + k) (h * 2 ^ m + l) k ≡ l * 2 ^ k + h
rotated_parts m k h l high low =
    let cut : m + k - k ≡ m = omega arith in
    let wide : (h * 2 ^ m + l) * 2 ^ k + h ≡ h * 2 ^ (m + k) + (l * 2 ^ k + h) = omega (arith, ap (λ n. h * n) (pow-add 2 m k)) in
    rw (cut, shr_high h m l low, wide) (mod_low h (m + k) (l * 2 ^ k + h) (beside_fits m k l h low high))

rotated_by_parts : (m j k h g l : ℕ) → h < 2 ^ j → g < 2 ^ k → l < 2 ^ m
    → rotated (m + k + j) (rotated (m + k + j) (h * 2 ^ (m + k) + (g * 2 ^ m + l)) j) k ≡ rotated (m + k + j) (h * 2 ^ (m + k) + (g * 2 ^ m + l)) (j + k)
rotated_by_parts m j k h g l high middle low =
    let first = rotated_parts (m + k) j h (g * 2 ^ m + l) high (subst (λ n. g * 2 ^ m + l < 2 ^ n) (omega arith) (beside_fits k m g l middle low)) in
    let regrouped : (g * 2 ^ m + l) * 2 ^ j + h ≡ g * 2 ^ (m + j) + (l * 2 ^ j + h) = omega (arith, ap (λ n. g * n) (pow-add 2 m j)) in
    let width : m + k + j ≡ m + j + k = omega arith in
    let second = rotated_parts (m + j) k g (l * 2 ^ j + h) middle (beside_fits m j l h low high) in
    let whole_width : m + (j + k) ≡ m + k + j = omega arith in
    let whole_value : (h * 2 ^ k + g) * 2 ^ m + l ≡ h * 2 ^ (m + k) + (g * 2 ^ m + l) = omega (arith, ap (λ n. h * n) (pow-add 2 m k)) in
    let at_once = rotated_parts m (j + k) (h * 2 ^ k + g) l (beside_fits j k h g high middle) low in
    let ends : (l * 2 ^ j + h) * 2 ^ k + g ≡ l * 2 ^ (j + k) + (h * 2 ^ k + g) = omega (arith, ap (λ n. l * n) (pow-add 2 j k)) in
    ap (λ n. rotated (m + k + j) n k) (first ∙ regrouped)
    ∙ ap (λ n. rotated n (g * 2 ^ (m + j) + (l * 2 ^ j + h)) k) width
    ∙ second ∙ ends ∙ sym at_once
    ∙ ap (λ n. rotated n ((h * 2 ^ k + g) * 2 ^ m + l) (j + k)) whole_width
    ∙ ap (λ n. rotated (m + k + j) n (j + k)) whole_value

rotated_twice : (w x j k : ℕ) → x < 2 ^ w → j + k ≤ w → rotated w (rotated w x j) k ≡ rotated w x (j + k)
rotated_twice w x j k fits within =
    let m : ℕ = w - (j + k) in
    let width : w ≡ m + k + j = omega arith in
    let wide : w ≡ j + (m + k) = omega arith in
    let low : ℕ = x % 2 ^ (m + k) in
    let low_fits : low < 2 ^ (k + m) = subst (λ n. low < 2 ^ n) (omega arith) (mod_below x (2 ^ (m + k)) (pow_pos (m + k))) in
    let parts : x ≡ x / 2 ^ (m + k) * 2 ^ (m + k) + (low / 2 ^ m * 2 ^ m + low % 2 ^ m) =
    sym (ap (λ n. x / 2 ^ (m + k) * 2 ^ (m + k) + n) (shr_split low m) ∙ shr_split x (m + k)) in
    let high_fits : x / 2 ^ (m + k) < 2 ^ j = shr_below x j (m + k) (subst (λ n. x < 2 ^ n) wide fits) in
    let P : ℕ → ℕ → Type 0 = λ v n. rotated v (rotated v n j) k ≡ rotated v n (j + k) in
    subst (λ v. P v x) (sym width) (subst (λ n. P (m + k + j) n) (sym parts)
    (rotated_by_parts m j k (x / 2 ^ (m + k)) (low / 2 ^ m) (low % 2 ^ m) high_fits (shr_below low k m low_fits) (mod_below low (2 ^ m) (pow_pos m))))

filled_by_parts : (m j k x : ℕ) → 2 ^ (m + j + k) - 2 ^ (m + j) + (2 ^ (m + j + k) - 2 ^ (m + k) + x / 2 ^ j) / 2 ^ k ≡ 2 ^ (m + j + k) - 2 ^ m + x / 2 ^ (j + k)
filled_by_parts m j k x =
    let more : ℕ = 2 ^ (m + j) - 2 ^ m in
    let some_j = pow_pos j in
    let some_k = pow_pos k in
    let one_j : 2 ^ m * 1 ≤ 2 ^ m * 2 ^ j = grind arith in
    let one_k : 2 ^ (m + j) * 1 ≤ 2 ^ (m + j) * 2 ^ k = grind arith in
    let difference : 2 ^ (m + j) ≡ more + 2 ^ m = omega (arith, pow-add 2 m j) in
    let scaled : 2 ^ (m + j) * 2 ^ k ≡ more * 2 ^ k + 2 ^ m * 2 ^ k = ap (λ n. n * 2 ^ k) difference ∙ omega arith in
    let inside : 2 ^ (m + j + k) - 2 ^ (m + k) + x / 2 ^ j ≡ more * 2 ^ k + x / 2 ^ j = omega (arith, pow-add 2 (m + j) k, pow-add 2 m k) in
    let quotient : (more * 2 ^ k + x / 2 ^ j) / 2 ^ k ≡ more + x / 2 ^ (j + k) = mul-add-div_right some_k more (x / 2 ^ j) ∙ ap (λ n. more + n) (shr-shr x j k) in
    ap (λ n. 2 ^ (m + j + k) - 2 ^ (m + j) + n) (ap (λ n. n / 2 ^ k) inside ∙ quotient) ∙ omega (arith, pow-add 2 (m + j) k)

filled_twice : (w x j k : ℕ) → j + k ≤ w → 2 ^ w - 2 ^ (w - k) + (2 ^ w - 2 ^ (w - j) + x / 2 ^ j) / 2 ^ k ≡ 2 ^ w - 2 ^ (w - (j + k)) + x / 2 ^ (j + k)
filled_twice w x j k within =
    let m : ℕ = w - (j + k) in
    let width : m + j + k ≡ w = omega arith in
    let at_k : m + j ≡ w - k = omega arith in
    let at_j : m + k ≡ w - j = omega arith in
    let P : ℕ → ℕ → ℕ → Type 0 = λ v p q. 2 ^ v - 2 ^ p + (2 ^ v - 2 ^ q + x / 2 ^ j) / 2 ^ k ≡ 2 ^ v - 2 ^ m + x / 2 ^ (j + k) in
    subst (λ v. P v (w - k) (w - j)) width (subst (λ p. P (m + j + k) p (w - j)) at_k (subst (λ q. P (m + j + k) (m + j) q) at_j (filled_by_parts m j k x)))

left_twice : (turn : Bool) (w x j k : ℕ) → x < 2 ^ w → j + k ≤ w → moved_left turn w (moved_left turn w x j) k ≡ moved_left turn w x (j + k)
left_twice true w x j k fits within = rotated_twice w x j k fits within
left_twice false w x j k fits within =
    let product : x * 2 ^ j * 2 ^ k ≡ x * 2 ^ (j + k) = omega (arith, ap (λ n. x * n) (pow-add 2 j k)) in
    mul-mod_first (x * 2 ^ j) (2 ^ k) (2 ^ w) ∙ ap (λ n. n % 2 ^ w) product

right_twice : (fill : Bool) (w x j k : ℕ) → j + k ≤ w → moved_right fill w (moved_right fill w x j) k ≡ moved_right fill w x (j + k)
right_twice true w x j k within = filled_twice w x j k within
right_twice false w x j k within = rw (zero-add (x / 2 ^ j), zero-add (x / 2 ^ j / 2 ^ k), zero-add (x / 2 ^ (j + k))) (shr-shr x j k)

-- what is moved by j places and then by k is moved by j + k, in each way
pub moved_twice : (read : ℕ → ℕ) (d : Way) (w x j k : ℕ) → x < 2 ^ w → j + k ≤ w → moved read d w (moved read d w x j) k ≡ moved read d w x (j + k)
moved_twice read (way.Left turn) w x j k fits within = left_twice (read turn.number == 1) w x j k fits within
moved_twice read (way.Right fill) w x j k fits within = right_twice (read fill.number == 1) w x j k within

left_none : (turn : Bool) (w x : ℕ) → x < 2 ^ w → moved_left turn w x 0 ≡ x
left_none true w x fits =
    let all : w - 0 ≡ w = omega arith in
    let same : x * 1 + 0 ≡ x = omega arith in
    rw (all, div-eq_of_lt fits, same) (mod-eq_of_lt fits)
left_none false w x fits =
    let same : x * 1 ≡ x = omega arith in
    rw same (mod-eq_of_lt fits)

right_none : (fill : Bool) (w x : ℕ) → moved_right fill w x 0 ≡ x
right_none true w x =
    let all : w - 0 ≡ w = omega arith in
    let same : x / 1 ≡ x = omega arith in
    rw (all, same) (omega arith)
right_none false w x =
    let same : x / 1 ≡ x = omega arith in
    rw same (omega arith)

-- what is moved by no place stays
pub moved_none : (read : ℕ → ℕ) (d : Way) (w x : ℕ) → x < 2 ^ w → moved read d w x 0 ≡ x
moved_none read (way.Left turn) w x fits = left_none (read turn.number == 1) w x fits
moved_none read (way.Right fill) w x fits = right_none (read fill.number == 1) w x

-- the lower part set above what comes in
pub left_parts : (turn : Bool) (w x k : ℕ) → x < 2 ^ w → k ≤ w → x % 2 ^ (w - k) * 2 ^ k + (if turn then x / 2 ^ (w - k) else 0) ≡ moved_left turn w x k
left_parts true w x k fits within =
    let m : ℕ = w - k in
    let width : m + k ≡ w = omega arith in
    let wide : w ≡ k + m = omega arith in
    let high = shr_below x k m (subst (λ n. x < 2 ^ n) wide fits) in
    let turned = rotated_parts m k (x / 2 ^ m) (x % 2 ^ m) high (mod_below x (2 ^ m) (pow_pos m)) in
    sym (subst (λ n. rotated w n k ≡ x % 2 ^ m * 2 ^ k + x / 2 ^ m) (shr_split x m) (subst (λ v. rotated v (x / 2 ^ m * 2 ^ m + x % 2 ^ m) k ≡ x % 2 ^ m * 2 ^ k + x / 2 ^ m) width turned))
left_parts false w x k fits within =
    let m : ℕ = w - k in
    let width : m + k ≡ w = omega arith in
    let P : ℕ → Type 0 = λ v. x % 2 ^ m * 2 ^ k + 0 ≡ x * 2 ^ k % 2 ^ v in
    let parts : x * 2 ^ k ≡ x / 2 ^ m * 2 ^ (m + k) + (x % 2 ^ m * 2 ^ k + 0) =
    ap (λ n. n * 2 ^ k) (sym (shr_split x m)) ∙ omega (arith, ap (λ n. x / 2 ^ m * n) (pow-add 2 m k)) in
    let small : x % 2 ^ m * 2 ^ k + 0 < 2 ^ (m + k) = beside_fits m k (x % 2 ^ m) 0 (mod_below x (2 ^ m) (pow_pos m)) (pow_pos k) in
    subst P width (sym (ap (λ n. n % 2 ^ (m + k)) parts ∙ mod_low (x / 2 ^ m) (m + k) (x % 2 ^ m * 2 ^ k + 0) small))

-- what comes in set above the upper part
pub right_parts : (fill : Bool) (w x k : ℕ) → k ≤ w → (if fill then 2 ^ k - 1 else 0) * 2 ^ (w - k) + x / 2 ^ k ≡ moved_right fill w x k
right_parts true w x k within =
    let width : k + (w - k) ≡ w = omega arith in
    let some = pow_pos k in
    let product : 2 ^ w ≡ 2 ^ k * 2 ^ (w - k) = ap (λ n. 2 ^ n) (sym width) ∙ pow-add 2 k (w - k) in
    let one_less : 2 ^ k ≡ (2 ^ k - 1) + 1 = omega arith in
    let scaled : 2 ^ k * 2 ^ (w - k) ≡ (2 ^ k - 1) * 2 ^ (w - k) + 2 ^ (w - k) = ap (λ n. n * 2 ^ (w - k)) one_less ∙ omega arith in
    omega arith
right_parts false w x k within = omega arith
