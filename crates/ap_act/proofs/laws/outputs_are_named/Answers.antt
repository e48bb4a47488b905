use Rattle.ap_act.proofs.Named.{outputs_are_named}
use Rattle.ap_act.proofs.laws.outputs_are_named.Goals as goal

pub returns : goal.returns
returns c = outputs_are_named
