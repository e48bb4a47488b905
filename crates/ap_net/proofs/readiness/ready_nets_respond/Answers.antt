use Rattle.ap_net.proofs.Responses.{ready_respond}
use Rattle.ap_net.proofs.readiness.ready_nets_respond.Goals as goal

pub returns : goal.returns
returns c = ready_respond
