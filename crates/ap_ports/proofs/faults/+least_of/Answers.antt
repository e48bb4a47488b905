use Rattle.ap_ports.proofs.Firsts.{least_cons}
use Rattle.ap_ports.proofs.faults.+least_of.Goals as goal

pub returns : goal.returns
returns t c =
    rw (c.sooner.ensures, c.refusal_at-here.ensures)
    (least_cons c.args.design.now c.args.kinds.now _ c.in-len1-up.len_at_least c.first_line.result c.least_of.result c.first_line.ensures c.least_of.ensures)
