-- Tests of numbers that are large.
use Rattle.std.proofs.Common.{◌≡◌, ℕ, ◌<◌, ◌≤◌, ◌^◌, ◌==◌, nat_lt, nat_le, arith, pow_mono}
use Rattle.std.proofs.lemmas.Bool.Decides.{nat_tests}

-- all of 64 bits fits a larger width
pub wide_enough : (width value : ℕ) → 64 ≤ width → value < 18446744073709551616 → nat_le 64 width ≡ nat_lt value (2 ^ width)
wide_enough width value wide low =
    let up : 2 ^ 64 ≤ 2 ^ width = pow_mono wide in
    let below : value < 2 ^ width = omega arith in
    grind (arith, nat_tests)

-- a number of 32 bits is below a larger power
pub no_index : (bits cells : ℕ) → 32 ≤ bits → cells < 4294967296 → nat_lt bits 32 ≡ (2 ^ bits == cells)
no_index bits cells wide low =
    let up : 2 ^ 32 ≤ 2 ^ bits = pow_mono wide in
    let above : cells < 2 ^ bits = omega arith in
    grind (arith, nat_tests)
