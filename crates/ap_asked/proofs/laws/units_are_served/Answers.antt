use Rattle.ap_asked.proofs.Stood.{known_have, placed_served}
use Rattle.ap_asked.proofs.laws.units_are_served.Goals as goal

pub returns-clause-modules : goal.returns-clause-modules
returns-clause-modules c = known_have

pub returns-clause-served : goal.returns-clause-served
returns-clause-served c = placed_served
