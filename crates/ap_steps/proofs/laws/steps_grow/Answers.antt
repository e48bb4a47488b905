use Rattle.ap_steps.proofs.Steps.{grown}
use Rattle.ap_steps.proofs.laws.steps_grow.Goals as goal

pub returns : goal.returns
returns c = grown
