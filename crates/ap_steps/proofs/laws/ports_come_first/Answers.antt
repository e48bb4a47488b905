use Rattle.ap_steps.proofs.Built.{outside_looks_for_ports, ports_come_first}
use Rattle.ap_steps.proofs.laws.ports_come_first.Goals as goal

pub returns-clause-first : goal.returns-clause-first
returns-clause-first c = ports_come_first

pub returns-clause-looks : goal.returns-clause-looks
returns-clause-looks c = outside_looks_for_ports
