use Rattle.ap_top.proofs.Ranges.{takes_fitting}
use Rattle.ap_top.proofs.numbers.Numbers.fit_line.Goals as goal

pub returns-then-take_line : goal.returns-then-take_line
returns-then-take_line c = takes_fitting _ _ _ c.form.result _ c.is_some.ensures (rw c.if-take_line.true at c.take_line.ensures) c.form.ensures.some c.form.ensures.none
