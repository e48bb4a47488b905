use Rattle.ap_act.proofs.Follow.{transfer_is_ready, writes_are_ready}
use Rattle.ap_act.proofs.laws.acts_follow.Goals as goal

pub returns-clause-writes : goal.returns-clause-writes
returns-clause-writes c = writes_are_ready

pub returns-clause-transfer : goal.returns-clause-transfer
returns-clause-transfer c = transfer_is_ready
