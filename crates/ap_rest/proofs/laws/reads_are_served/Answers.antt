use Rattle.ap_rest.proofs.Serving.{reads_are_served, stages_drive_used}
use Rattle.ap_rest.proofs.laws.reads_are_served.Goals as goal

pub returns-clause-driven : goal.returns-clause-driven
returns-clause-driven c = stages_drive_used c.used_ports_are_nodes.ensures.used

pub returns-clause-served : goal.returns-clause-served
returns-clause-served c = reads_are_served
