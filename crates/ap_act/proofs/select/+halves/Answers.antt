use Rattle.std.proofs.Common.{arith}
use Rattle.ap_merge.proofs.Halves.{balanced_halves, balanced_one, over_halves, over_one}
use Rattle.ap_act.proofs.select.+halves.Goals as goal

pub returns-then-to-from-eq1-clause-over : goal.returns-then-to-from-eq1-clause-over
returns-then-to-from-eq1-clause-over t c = over_one c.args.from c.args.to (omega arith)

pub returns-then-to-from-eq1-clause-balanced : goal.returns-then-to-from-eq1-clause-balanced
returns-then-to-from-eq1-clause-balanced t c = balanced_one c.args.from _

pub returns-clause-over : goal.returns-clause-over
returns-clause-over t c = rw (c.in_ok-yes-2.ensures, c.in_ok-no-2.ensures) (over_halves _ _ c.args.from _ c.args.to (omega arith) (omega arith) c.in_ok-yes.ensures.over c.in_ok-no.ensures.over)

pub returns-clause-balanced : goal.returns-clause-balanced
returns-clause-balanced t c = rw (c.in_ok-yes-2.ensures, c.in_ok-no-2.ensures) (balanced_halves c.in_ok-yes.yes c.in_ok-no.no c.args.from c.args.to (omega arith) c.in_ok-yes.ensures.balanced c.in_ok-no.ensures.balanced)
