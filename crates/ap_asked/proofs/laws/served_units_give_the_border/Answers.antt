use Rattle.ap_asked.proofs.Given.{are_joined, give_border, give_busy, shows_busy}
use Rattle.ap_asked.proofs.laws.served_units_give_the_border.Goals as goal

pub returns-clause-units : goal.returns-clause-units
returns-clause-units c = give_border c.asking_is_shown.ensures

pub returns-clause-busy : goal.returns-clause-busy
returns-clause-busy c = shows_busy

pub returns-clause-all : goal.returns-clause-all
returns-clause-all c = give_busy

pub returns-clause-joined : goal.returns-clause-joined
returns-clause-joined c = are_joined
