use Rattle.ap_staged.proofs.Ports.{ports_are_of, slow_ports_are_placed}
use Rattle.ap_staged.proofs.laws.supplied_ports_are_of.Goals as goal

pub returns-clause-ports : goal.returns-clause-ports
returns-clause-ports c = ports_are_of

pub returns-clause-slow : goal.returns-clause-slow
returns-clause-slow c = slow_ports_are_placed
