-- A value below the end of a field's range, where that is no value of the field.
use Rattle.std.proofs.Common.{◌≡◌, ℕ, ◌+◌, ◌-◌, ◌*◌, ◌%◌, ◌^◌, ◌<◌, sym, ap, ◌∙◌, arith}
use Rattle.std.proofs.Math.Nat.{mod-eq_of_lt}
use Rattle.std.proofs.lemmas.Nat.{mod-mul-add, pow_pos}

pub none_below : (width value : ℕ) → value ≡ 0 → 0 ≡ (2 ^ width - value) % 2 ^ width
none_below width value e =
    let whole : 2 ^ width - value ≡ 1 * 2 ^ width + 0 = omega arith in
    sym (ap (λ n. n % 2 ^ width) whole ∙ mod-mul-add 1 (2 ^ width) 0 (pow_pos width))

pub past_end : (width value : ℕ) → 2 ^ width - 1 < value → 0 ≡ (2 ^ width - value) % 2 ^ width
past_end width value lt =
    let none : 2 ^ width - value ≡ 0 = (let some : 0 < 2 ^ width = pow_pos width in omega arith) in
    sym (ap (λ n. n % 2 ^ width) none ∙ mod-eq_of_lt (pow_pos width))
