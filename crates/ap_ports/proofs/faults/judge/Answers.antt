use Rattle.ap_ports.proofs.Firsts.{least_of_all}
use Rattle.ap_ports.proofs.Judged.{if_none_least, if_some_least}
use Rattle.ap_ports.proofs.faults.judge.Goals as goal

pub returns-clause-some : goal.returns-clause-some
returns-clause-some c =
    if_some_least c.args.design.now c.least_of.result (λ r h. (c.least_fault_is_looked_at.ensures.ports c.args.design.now r).0 h)
    (least_of_all c.args.design.now c.least_of.result c.least_of.ensures)

pub returns-clause-none : goal.returns-clause-none
returns-clause-none c = if_none_least c.args.design.now c.least_of.result (least_of_all c.args.design.now c.least_of.result c.least_of.ensures)
