use Rattle.std.proofs.Common.{arith}
use Rattle.ap_check.proofs.NumberTests.{wide_enough}
use Rattle.ap_check.proofs.numbers.has_bits.Goals as goal

pub returns-then-width-ge64 : goal.returns-then-width-ge64
returns-then-width-ge64 c = wide_enough c.args.width c.args.value (omega arith) (omega arith)
