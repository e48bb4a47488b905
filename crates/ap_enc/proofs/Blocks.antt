-- Numbers side by side in a word.
use Rattle.std.proofs.Common.{◌≡◌, ℕ, ◌+◌, ◌-◌, ◌*◌, ◌/◌, ◌%◌, ◌^◌, ◌<◌, ◌≤◌, sym, ap, ◌∙◌, arith}
use Rattle.std.specs.Prelude.{bit_and, nat_lt, nat_le, ◌==◌}
use Rattle.std.proofs.Math.Nat.{mul_comm, mod-eq_of_lt, div-eq_of_lt, lt-div-mul-add, zero-mul}
use Rattle.std.proofs.Math.Pow.{pow_mono}
use Rattle.std.proofs.lemmas.Bool.{le-leb, lt-ltb, ltb_from_iff, eqb-true, eq-eqb}
use Rattle.std.proofs.lemmas.Nat.{pow_pos, pow-add, and_mask, and_le_r, shr_high, mod_low, mul-add-lt}

-- a block above a smaller number is below the power of both widths
pub block_below : (v r j k : ℕ) → v < 2 ^ j → r < 2 ^ k → v * 2 ^ k + r < 2 ^ (j + k)
block_below v r j k h l =
    let e : 2 ^ (j + k) ≡ 2 ^ k * 2 ^ j = pow-add 2 j k ∙ mul_comm (2 ^ j) (2 ^ k) in
    rw e (mul-add-lt v (2 ^ k) r (2 ^ j) h l)

-- what stands above a block stands above the rest too
pub block_high : (h v r j k : ℕ) → h * 2 ^ (j + k) + (v * 2 ^ k + r) ≡ (h * 2 ^ j + v) * 2 ^ k + r
block_high h v r j k = rw (pow-add 2 j k) (omega arith)

-- the block's value, whatever stands above
pub block_value : (h v r j k : ℕ) → v < 2 ^ j → r < 2 ^ k → ((h * 2 ^ (j + k) + (v * 2 ^ k + r)) / 2 ^ k) % 2 ^ j ≡ v
block_value h v r j k lv lr = rw (block_high h v r j k) (rw (shr_high (h * 2 ^ j + v) k r lr) (mod_low h j v lv))

-- a value that fits lies in the mask of its width
pub in_full_mask : (v j : ℕ) → v < 2 ^ j → bit_and v (2 ^ j - 1) ≡ v
in_full_mask v j lt = and_mask v j ∙ mod-eq_of_lt lt

-- the mask of a width fits it
pub full_mask_fits : (j : ℕ) → 2 ^ j - 1 < 2 ^ j
full_mask_fits j = let p : 0 < 2 ^ j = pow_pos j in omega arith

-- what lies in a mask is below what the mask is below
pub below_by_mask : (a m b : ℕ) → bit_and a m ≡ a → m < b → a < b
below_by_mask a m b e lt = omega (arith, and_le_r a m)

-- a value of a word fits every width from that of a word on
pub fits_wide : (value width : ℕ) → value < 2 ^ 64 → 64 ≤ width → nat_le 64 width ≡ nat_lt value (2 ^ width)
fits_wide value width lt le =
    let more : 2 ^ 64 ≤ 2 ^ width = pow_mono le in
    let less : value < 2 ^ width = omega arith in
    le-leb 64 width le ∙ sym (lt-ltb value (2 ^ width) less)

below_divisor : (n d : ℕ) → 0 < d → n / d ≡ 0 → n < d
below_divisor n d above e = let whole : n < n / d * d + d = lt-div-mul-add above in let none : n / d * d ≡ 0 = ap (λ q. q * d) e ∙ zero-mul d in omega arith

-- it fits a width where nothing is left above it
pub fits_shifted : (value width : ℕ) → (value / 2 ^ width == 0) ≡ nat_lt value (2 ^ width)
fits_shifted value width = ltb_from_iff (
  (λ none. let above : value / 2 ^ width ≡ 0 = eqb-true (value / 2 ^ width) 0 none in below_divisor value (2 ^ width) (pow_pos width) above),
  (λ less. eq-eqb (value / 2 ^ width) 0 (div-eq_of_lt less)),
)

-- no bit of a word stands above its 64, and all stand below
pub above_all : (v low : ℕ) → v < 2 ^ 64 → 64 ≤ low → 0 ≡ v / 2 ^ low
above_all v low fits h = let more : 2 ^ 64 ≤ 2 ^ low = pow_mono h in let less : v < 2 ^ low = omega arith in sym (div-eq_of_lt less)

pub low_all : (v width : ℕ) → v < 2 ^ 64 → 64 ≤ width → v ≡ v % 2 ^ width
low_all v width fits h = let more : 2 ^ 64 ≤ 2 ^ width = pow_mono h in let less : v < 2 ^ width = omega arith in sym (mod-eq_of_lt less)
