use Rattle.ap_commit.proofs.Stands.{transfer_stands, writes_stand}
use Rattle.ap_commit.proofs.laws.effects_stand.Goals as goal

pub returns-clause-writes : goal.returns-clause-writes
returns-clause-writes c = writes_stand c.instructions_hand_on.ensures.writes

pub returns-clause-transfer : goal.returns-clause-transfer
returns-clause-transfer c = transfer_stands c.instructions_hand_on.ensures.writes
