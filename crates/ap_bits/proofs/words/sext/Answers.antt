use Rattle.std.proofs.Common.{◌≡◌, ◌-◌, ◌^◌, ◌<◌, ◌≤◌, ◌∙◌, ap, not, arith}
use Rattle.std.proofs.lemmas.Nat.{pow_pos}
use Rattle.ap_bits.proofs.LowBits.{power_le}
use Rattle.ap_bits.proofs.SignedValues.{extended_positive, extended_negative}
use Rattle.ap_bits.proofs.words.sext.Goals as goal

pub overflow_sub-result : goal.overflow_sub-result
overflow_sub-result c = omega (arith, c.mask.ensures, c.mask-then-is_negative.ensures, power_le c.args.from c.args.to c.requires.order)

pub returns-then-is_negative-clause-fits : goal.returns-then-is_negative-clause-fits
returns-then-is_negative-clause-fits c = omega (arith, c.mask.ensures, c.mask-then-is_negative.ensures, power_le c.args.from c.args.to c.requires.order)

pub returns-then-is_negative-clause-number : goal.returns-then-is_negative-clause-number
returns-then-is_negative-clause-number c =
    let longer : 2 ^ c.args.from ≤ 2 ^ c.args.to = power_le c.args.from c.args.to c.requires.order in
    let some : 0 < 2 ^ c.args.from = pow_pos c.args.from in
    let added : c.mask.result - c.mask-then-is_negative.result ≡ 2 ^ c.args.to - 2 ^ c.args.from = omega (arith, c.mask.ensures, c.mask-then-is_negative.ensures) in
    rw added (extended_negative c.args.from c.args.to c.args.v c.requires.low c.requires.order c.requires.fits (c.is_negative.ensures ∙ ap not c.if-is_negative.true))

pub returns-else-is_negative-clause-fits : goal.returns-else-is_negative-clause-fits
returns-else-is_negative-clause-fits c = omega (arith, power_le c.args.from c.args.to c.requires.order)

pub returns-else-is_negative-clause-number : goal.returns-else-is_negative-clause-number
returns-else-is_negative-clause-number c = extended_positive c.args.from c.args.to c.args.v c.requires.low c.requires.order c.requires.fits (c.is_negative.ensures ∙ ap not c.if-is_negative.false)
