use Rattle.ap_effect.proofs.Growing.{ports_go_on, transfers_go_on}
use Rattle.ap_effect.proofs.laws.effects_go_on.Goals as goal

pub returns-clause-ports : goal.returns-clause-ports
returns-clause-ports c = ports_go_on

pub returns-clause-transfers : goal.returns-clause-transfers
returns-clause-transfers c = transfers_go_on
