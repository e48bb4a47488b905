use Rattle.ap_model.proofs.MachineLaws.{asks_are_right, stable_asks}
use Rattle.ap_model.proofs.laws.units_are_asked_early.Goals as goal

pub returns-clause-lines : goal.returns-clause-lines
returns-clause-lines c = asks_are_right

pub returns-clause-inputs : goal.returns-clause-inputs
returns-clause-inputs c = stable_asks
