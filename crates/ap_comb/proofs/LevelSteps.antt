-- The levels of a shift: after the levels below i a value is moved as far as the lowest i bits of the shift say.
use Rattle.std.proofs.Common.{◌≡◌, ℕ, zero, suc, ◌+◌, ◌*◌, ◌/◌, ◌%◌, ◌^◌, ◌<◌, ◌≤◌, refl, ap, ◌∙◌, arith, inl, inr}
use Rattle.std.specs.Prelude.{◌==◌, if◌then◌else◌, ◌⊎◌}
use Rattle.std.proofs.Math.Nat.{pow-le-pow_right, pow-suc}
use Rattle.std.proofs.lemmas.Bool.{cases_lt}
use Rattle.std.proofs.lemmas.Nat.{mod-pow-add, mod_below, pow_pos, one_shl}
use Rattle.ap_comb.specs.declared.levels.Way.{Way}
use Rattle.ap_comb.specs.Moves.{moved}
use Rattle.ap_comb.proofs.MovedTwice.{moved_twice}

pub bit_cases : (n : ℕ) → n < 2 → (n ≡ 0) ⊎ (n ≡ 1)
bit_cases zero h = inl refl
bit_cases (suc zero) h = inr refl
bit_cases (suc (suc n)) h = absurd (omega arith)

-- one bit more of a number
one_bit_more : (b i : ℕ) → b % 2 ^ (i + 1) ≡ b / 2 ^ i % 2 * 2 ^ i + b % 2 ^ i
one_bit_more b i = let turned : i + 1 ≡ 1 + i = omega arith in rw turned (mod-pow-add b 1 i)

-- one level more
pub level_more : (read : ℕ → ℕ) (d : Way) (w x b i : ℕ) → x < 2 ^ w → 2 ^ i + 2 ^ i ≤ w
    → (if b / 2 ^ i % 2 == 1 then moved read d w (moved read d w x (b % 2 ^ i)) (2 ^ i) else moved read d w x (b % 2 ^ i)) ≡ moved read d w x (b % 2 ^ (i + 1))
level_more read d w x b i fits within =
    let low : b % 2 ^ i < 2 ^ i = mod_below b (2 ^ i) (pow_pos i) in
    elim (bit_cases (b / 2 ^ i % 2) (mod_below (b / 2 ^ i) 2 (omega arith))) [
      | inl none ↦
          let same : b % 2 ^ (i + 1) ≡ b % 2 ^ i = one_bit_more b i ∙ ap (λ n. n * 2 ^ i + b % 2 ^ i) none ∙ omega arith in
          rw (none, same) refl
      | inr one ↦
          let more : b % 2 ^ (i + 1) ≡ b % 2 ^ i + 2 ^ i = one_bit_more b i ∙ ap (λ n. n * 2 ^ i + b % 2 ^ i) one ∙ omega arith in
          rw (one, more) (moved_twice read d w x (b % 2 ^ i) (2 ^ i) fits (omega arith))
    ]

-- a level below the count moves by less than the width
pub level_within : (i count : ℕ) → i < count → 2 ^ i + 2 ^ i ≤ 2 ^ count
level_within i count below =
    let two : 0 < 2 = omega arith in
    let up : 2 ^ suc i ≤ 2 ^ count = pow-le-pow_right two below in
    omega (arith, pow-suc 2 i)

-- a width up to 64 has six levels at most
pub levels_few : (w count : ℕ) → w ≡ 2 ^ count → w ≤ 64 → count ≤ 6
levels_few w count width high =
    elim (cases_lt 6 count) [
      | inl many ↦ let two : 0 < 2 = omega arith in let up : 2 ^ 7 ≤ 2 ^ count = pow-le-pow_right two many in absurd (omega arith)
      | inr few ↦ few
    ]

-- the places of a level, as they are computed in 32 bits
pub level_places : (i count w : ℕ) → i < count → w ≡ 2 ^ count → w ≤ 64 → 1 * 2 ^ i % 2 ^ 32 ≡ 2 ^ i
level_places i count w below width high = let few = levels_few w count width high in one_shl i 32 (omega arith)
