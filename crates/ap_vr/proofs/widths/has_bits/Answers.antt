use Rattle.std.proofs.Common.{⊎_elim, ◌≡◌, ℕ, ◌^◌, ◌<◌, ◌≤◌, ◌/◌, nat_lt, nat_eq, sym, ◌∙◌, arith}
use Rattle.std.proofs.Math.Nat.{pow-le-pow_right, div-eq_of_lt, lt-mul-div-succ}
use Rattle.std.proofs.lemmas.Nat.{pow_pos}
use Rattle.std.proofs.lemmas.Bool.{lt-ltb, le-leb, le-ltb, cases_lt, eq-eqb, ne_eqb}
use Rattle.ap_vr.proofs.widths.has_bits.Goals as goal

-- a value of 64 bits is below each higher power
far : (value bits : ℕ) → value < 2 ^ 64 → 64 ≤ bits → value < 2 ^ bits
far value bits fits h = let p : 2 ^ 64 ≤ 2 ^ bits = pow-le-pow_right {n = 2} (omega arith) h in omega arith

-- what is left after a shift is 0 where the value was below the power
left : (value power : ℕ) → 0 < power → nat_eq (value / power) 0 ≡ nat_lt value power
left value power pos = ⊎_elim
    (λ lt. eq-eqb (value / power) 0 (div-eq_of_lt lt) ∙ sym (lt-ltb value power lt))
    (λ le. ne_eqb (value / power) 0 (λ e. let above = lt-mul-div-succ value pos in absurd (grind (arith, above, e, le))) ∙ sym (le-ltb value power le))
    (cases_lt value power)

pub returns-then-bits-ge64 : goal.returns-then-bits-ge64
returns-then-bits-ge64 c = let h : 64 ≤ c.args.bits = omega arith in le-leb 64 c.args.bits h ∙ sym (lt-ltb c.args.value (2 ^ c.args.bits) (far c.args.value c.args.bits c.ranges.value.fits h))

pub returns-else-bits-ge64 : goal.returns-else-bits-ge64
returns-else-bits-ge64 c = left c.args.value (2 ^ c.args.bits) (pow_pos c.args.bits)
