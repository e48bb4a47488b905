use Rattle.ap_act.proofs.PortsApart.{outputs_are_free, ports_are_apart}
use Rattle.ap_act.proofs.laws.ports_are_apart.Goals as goal

pub returns-clause-ports : goal.returns-clause-ports
returns-clause-ports c = ports_are_apart

pub returns-clause-outputs : goal.returns-clause-outputs
returns-clause-outputs c = outputs_are_free
