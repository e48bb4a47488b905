use Rattle.ap_steps.proofs.TopOrder.{tops_are_ready}
use Rattle.ap_steps.proofs.laws.tops_are_ready.Goals as goal

pub returns : goal.returns
returns c = tops_are_ready
