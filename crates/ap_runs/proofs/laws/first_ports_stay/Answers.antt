use Rattle.ap_runs.proofs.FirstPorts.{first_ports_stay, ports_are_looked_at}
use Rattle.ap_runs.proofs.laws.first_ports_stay.Goals as goal

pub returns-clause-numbers : goal.returns-clause-numbers
returns-clause-numbers c = first_ports_stay

pub returns-clause-looks : goal.returns-clause-looks
returns-clause-looks c = ports_are_looked_at
