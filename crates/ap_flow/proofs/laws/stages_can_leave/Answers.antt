use Rattle.ap_flow.proofs.Served.{served_can_leave, stages_can_leave, stages_have_instrs}
use Rattle.ap_flow.proofs.laws.stages_can_leave.Goals as goal

pub returns-clause-leave : goal.returns-clause-leave
returns-clause-leave c = stages_can_leave

pub returns-clause-instrs : goal.returns-clause-instrs
returns-clause-instrs c = stages_have_instrs

pub returns-clause-all : goal.returns-clause-all
returns-clause-all c = served_can_leave
