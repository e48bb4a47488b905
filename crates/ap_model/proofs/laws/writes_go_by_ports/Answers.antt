use Rattle.ap_model.proofs.MachineLaws.{goes_by_ports, stage_writes_by_ports}
use Rattle.ap_model.proofs.laws.writes_go_by_ports.Goals as goal

pub returns-clause-stage : goal.returns-clause-stage
returns-clause-stage c = stage_writes_by_ports

pub returns-clause-cycle : goal.returns-clause-cycle
returns-clause-cycle c = goes_by_ports
