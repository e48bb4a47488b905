use Rattle.ap_model.proofs.MachineLaws.{held_cycles}
use Rattle.ap_model.proofs.laws.held_cycles_change_nothing.Goals as goal

pub returns : goal.returns
returns c = held_cycles
