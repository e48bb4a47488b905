use Rattle.std.proofs.Common.{arith}
use Rattle.ap_merge.proofs.Halves.{over_halves, over_one}
use Rattle.effect_tests.proofs.ports.+halves.Goals as goal

pub returns-then-to-from-eq1 : goal.returns-then-to-from-eq1
returns-then-to-from-eq1 t c = over_one c.args.from c.args.to (omega arith)

pub returns : goal.returns
returns t c = rw (c.in_ok-yes-2.ensures, c.in_ok-no-2.ensures) (over_halves _ _ c.args.from _ c.args.to (omega arith) (omega arith) c.in_ok-yes.ensures c.in_ok-no.ensures)
