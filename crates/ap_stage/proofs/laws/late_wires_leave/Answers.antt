use Rattle.ap_stage.proofs.Rested.{late_wires_leave, rested_are_ready}
use Rattle.ap_stage.proofs.laws.late_wires_leave.Goals as goal

pub returns-clause-leave : goal.returns-clause-leave
returns-clause-leave c = late_wires_leave

pub returns-clause-ready : goal.returns-clause-ready
returns-clause-ready c = rested_are_ready
