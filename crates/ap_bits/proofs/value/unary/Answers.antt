use Rattle.std.proofs.Common.{arith}
use Rattle.ap_bits.proofs.Counts.{ones_among-le, zeros_above-le}
use Rattle.ap_bits.proofs.LowBits.{below_power}
use Rattle.ap_bits.proofs.value.unary.Goals as goal

pub returns-in-Pop-clause-fits : goal.returns-in-Pop-clause-fits
returns-in-Pop-clause-fits c = omega (arith, c.ones.ensures, ones_among-le c.args.w c.args.a, below_power c.args.w)

pub returns-in-Clz-clause-fits : goal.returns-in-Clz-clause-fits
returns-in-Clz-clause-fits c = omega (arith, c.leading.ensures, zeros_above-le c.args.w c.args.a, below_power c.args.w)
