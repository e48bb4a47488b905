use Rattle.ap_act.proofs.Follow.{transfer_is_made, writes_are_made}
use Rattle.ap_act.proofs.laws.acts_are_made.Goals as goal

pub returns-clause-writes : goal.returns-clause-writes
returns-clause-writes c = writes_are_made c.effects_stand.ensures.writes c.joined_ports_show.ensures

pub returns-clause-transfer : goal.returns-clause-transfer
returns-clause-transfer c = transfer_is_made c.effects_stand.ensures.transfer
