use Rattle.ap_net.proofs.HeldValues.{registers_hold, held_once}
use Rattle.ap_net.proofs.solve.registers_hold.Goals as goal

pub returns-clause-each : goal.returns-clause-each
returns-clause-each c = registers_hold

pub returns-clause-once : goal.returns-clause-once
returns-clause-once c = held_once
