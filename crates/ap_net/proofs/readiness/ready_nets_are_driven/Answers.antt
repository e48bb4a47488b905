use Rattle.ap_net.proofs.Responses.{ready_are_driven}
use Rattle.ap_net.proofs.readiness.ready_nets_are_driven.Goals as goal

pub returns : goal.returns
returns c = ready_are_driven
