use Rattle.ap_unit.proofs.Users.{asked_units_show, placed_units_show}
use Rattle.ap_unit.proofs.slow.asked_units_show.Goals as goal

pub returns-clause-alone : goal.returns-clause-alone
returns-clause-alone c = asked_units_show

pub returns-clause-placed : goal.returns-clause-placed
returns-clause-placed c = placed_units_show
