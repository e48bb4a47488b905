use Rattle.ap_model.proofs.MachineLaws.{readings_are_right}
use Rattle.ap_model.proofs.laws.readings_are_the_machine.Goals as goal

pub returns : goal.returns
returns c = readings_are_right
