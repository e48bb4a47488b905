use Rattle.std.proofs.Common.{arith}
use Rattle.ap_bits.proofs.LowBits.{one_below_power}
use Rattle.std.proofs.lemmas.Nat.{or_lt, xor_lt}
use Rattle.ap_bits.proofs.value.binary.Goals as goal

pub returns-in-Or-clause-fits : goal.returns-in-Or-clause-fits
returns-in-Or-clause-fits c = or_lt _ _ _ c.requires.a c.requires.b

pub returns-in-Xor-clause-fits : goal.returns-in-Xor-clause-fits
returns-in-Xor-clause-fits c = xor_lt _ _ _ c.requires.a c.requires.b

pub returns-in-Eq-clause-fits : goal.returns-in-Eq-clause-fits
returns-in-Eq-clause-fits c = omega (arith, c.flag.ensures.bit, one_below_power c.args.w c.requires.low)
