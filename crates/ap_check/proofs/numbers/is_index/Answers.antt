use Rattle.std.proofs.Common.{arith}
use Rattle.ap_check.proofs.NumberTests.{no_index}
use Rattle.ap_check.proofs.numbers.is_index.Goals as goal

pub returns-else-bits-lt32 : goal.returns-else-bits-lt32
returns-else-bits-lt32 c = no_index c.args.bits c.args.cells (omega arith) (omega arith)
