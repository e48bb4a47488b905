use Rattle.ap_act.proofs.Serving.{stages_can_act}
use Rattle.ap_act.proofs.laws.stages_can_act.Goals as goal

pub returns : goal.returns
returns c = stages_can_act
