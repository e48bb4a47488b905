-- Counts of bits, and those of a value's parts.
use Rattle.std.proofs.Common.{◌≡◌, ℕ, zero, suc, ◌+◌, ◌-◌, ◌*◌, ◌/◌, ◌%◌, ◌^◌, ◌<◌, ◌≤◌, refl, sym, ap, subst, ◌∙◌, arith, inl, inr}
use Rattle.std.specs.Prelude.{◌==◌, if◌then◌else◌, slice_get, Some, min}
use Rattle.std.proofs.Math.Nat.{pow-suc, mod-eq_of_lt, min-eq_left, min-eq_right}
use Rattle.std.proofs.lemmas.Bool.{cases_lt, lt-ltb, le-ltb}
use Rattle.std.proofs.lemmas.Nat.{pow_pos, pow-add, shr-shr, shl-shr}
use Rattle.ap_bits.specs.declared.term.UnOp.{UnOp}
use Rattle.ap_bits.specs.declared.term.UnOp.TheVariants.{Pop, Clz}
use Rattle.ap_bits.specs.Operations.{ones_among, zeros_above, unary_value}
use Rattle.ap_comb.specs.Counts.{count_ops}

pub ones_among-le : (w a : ℕ) → ones_among w a ≤ w
unfolding ones_among
ones_among-le zero a = omega arith
ones_among-le (suc w) a = omega (arith, ones_among-le w (a / 2))

-- one bit is its own count
pub ones_among-one : (a : ℕ) → ones_among 1 a ≡ a % 2
unfolding ones_among
ones_among-one a = omega arith

-- the count of a value is that of its lowest m bits and that of those above
pub ones_among-add : (m n a : ℕ) → ones_among (m + n) a ≡ ones_among m a + ones_among n (a / 2 ^ m)
unfolding ones_among
ones_among-add zero n a =
    let none : 0 + n ≡ n = omega arith in
    let whole : a / 1 ≡ a = omega arith in
    rw (none, whole) (omega arith)
ones_among-add (suc m) n a =
    let more : suc m + n ≡ suc (m + n) = omega arith in
    let turned : 1 + m ≡ suc m = omega arith in
    let above : a / 2 / 2 ^ m ≡ a / 2 ^ suc m = shr-shr a 1 m ∙ ap (λ k. a / 2 ^ k) turned in
    let rest : ones_among (m + n) (a / 2) ≡ ones_among m (a / 2) + ones_among n (a / 2 ^ suc m) = ones_among-add m n (a / 2) ∙ ap (λ k. ones_among m (a / 2) + ones_among n k) above in
    rw more (omega arith)

pub zeros_above-le : (w a : ℕ) → zeros_above w a ≤ w
unfolding zeros_above
zeros_above-le zero a = omega arith
zeros_above-le (suc w) a =
    elim (cases_lt a (2 ^ w)) [
      | inl below ↦ rw (lt-ltb a (2 ^ w) below) (omega (arith, zeros_above-le w a))
      | inr above ↦ rw (le-ltb a (2 ^ w) above) (omega arith)
    ]

-- all ones
ones_among-ones : (m : ℕ) → ones_among m (2 ^ m - 1) ≡ m
unfolding ones_among
ones_among-ones zero = refl
ones_among-ones (suc m) =
    let some = pow_pos m in
    let double = pow-suc 2 m in
    let odd : (2 ^ suc m - 1) % 2 ≡ 1 = omega arith in
    let half : (2 ^ suc m - 1) / 2 ≡ 2 ^ m - 1 = omega arith in
    rw (odd, half) (omega (arith, ones_among-ones m))

-- the low bits of a value that was moved over them
ones_among-moved : (l x : ℕ) → ones_among l (x * 2 ^ l) ≡ 0
unfolding ones_among
ones_among-moved zero x = refl
ones_among-moved (suc l) x =
    let double : x * 2 ^ suc l ≡ x * 2 ^ l * 2 = omega (arith, ap (λ k. x * k) (pow-suc 2 l)) in
    let even : (x * 2 ^ suc l) % 2 ≡ 0 = omega arith in
    let half : (x * 2 ^ suc l) / 2 ≡ x * 2 ^ l = omega arith in
    rw (even, half) (omega (arith, ones_among-moved l x))

-- ones from bit l on
ones_among-above : (w l : ℕ) → l ≤ w → ones_among w (2 ^ w - 1 - (2 ^ l - 1)) ≡ w - l
ones_among-above w l within =
    let m : ℕ = w - l in
    let width : l + m ≡ w = omega arith in
    let some_l = pow_pos l in
    let some_m = pow_pos m in
    let product : 2 ^ w ≡ 2 ^ m * 2 ^ l = ap (λ k. 2 ^ k) (sym width) ∙ pow-add 2 l m ∙ omega arith in
    let one_less : 2 ^ m ≡ (2 ^ m - 1) + 1 = omega arith in
    let scaled : 2 ^ m * 2 ^ l ≡ (2 ^ m - 1) * 2 ^ l + 2 ^ l = ap (λ k. k * 2 ^ l) one_less ∙ omega arith in
    let moved : 2 ^ w - 1 - (2 ^ l - 1) ≡ (2 ^ m - 1) * 2 ^ l = omega arith in
    ap (ones_among w) moved
    ∙ ap (λ k. ones_among k ((2 ^ m - 1) * 2 ^ l)) (sym width)
    ∙ ones_among-add l m ((2 ^ m - 1) * 2 ^ l)
    ∙ omega (arith, ones_among-moved l (2 ^ m - 1), ap (ones_among m) (shl-shr (2 ^ m - 1) l), ones_among-ones m)

-- what is counted for each operation
pub counted : (w a s : ℕ) (op : UnOp) → slice_get count_ops s ≡ Some op
    → ones_among w (if s == 1 then 2 ^ w - 1 - (2 ^ (w - zeros_above w a) - 1) else a) ≡ unary_value op w a
counted w a zero op at = let same : Pop ≡ op = cc in subst (λ o. ones_among w a ≡ unary_value o w a) same refl
counted w a (suc zero) op at =
    let same : Clz ≡ op = cc in
    let few = zeros_above-le w a in
    let counts : ones_among w (2 ^ w - 1 - (2 ^ (w - zeros_above w a) - 1)) ≡ zeros_above w a = ones_among-above w (w - zeros_above w a) (omega arith) ∙ omega arith in
    subst (λ o. ones_among w (2 ^ w - 1 - (2 ^ (w - zeros_above w a) - 1)) ≡ unary_value o w a) same counts
counted w a (suc (suc s)) op at = cc

-- a count of w bits fits in w bits
pub count_below : (w : ℕ) → w < 2 ^ w
count_below zero = omega arith
count_below (suc w) = omega (arith, count_below w, pow-suc 2 w)

-- and one of up to 64 bits fits in 7
pub count_fits : (w : ℕ) → w ≤ 64 → w < 2 ^ min w 7
count_fits w high =
    elim (cases_lt 7 w) [
      | inl more ↦ let seven : min w 7 ≡ 7 = min-eq_right (omega arith) in rw seven (omega arith)
      | inr few ↦ let all : min w 7 ≡ w = min-eq_left few in rw all (count_below w)
    ]

-- the counts of the two halves add up, and fit
pub halves : (x low half count width : ℕ) → half ≤ count → count < 2 ^ width
    → (ones_among half (x / 2 ^ low) + ones_among (count - half) (x / 2 ^ (low + half))) % 2 ^ width ≡ ones_among count (x / 2 ^ low)
halves x low half count width within room =
    let all : half + (count - half) ≡ count = omega arith in
    let above : x / 2 ^ (low + half) ≡ x / 2 ^ low / 2 ^ half = sym (shr-shr x low half) in
    let adds : ones_among half (x / 2 ^ low) + ones_among (count - half) (x / 2 ^ (low + half)) ≡ ones_among count (x / 2 ^ low) =
    ap (λ n. ones_among half (x / 2 ^ low) + ones_among (count - half) n) above
    ∙ sym (ones_among-add half (count - half) (x / 2 ^ low)) ∙ ap (λ n. ones_among n (x / 2 ^ low)) all in
    let few = ones_among-le count (x / 2 ^ low) in
    let fits : ones_among count (x / 2 ^ low) < 2 ^ width = omega arith in
    ap (λ n. n % 2 ^ width) adds ∙ mod-eq_of_lt fits
