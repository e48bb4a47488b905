use Rattle.ap_net.proofs.Accounting.{accounts}
use Rattle.ap_net.proofs.readiness.pending_nets_are_accounted.Goals as goal

pub returns : goal.returns
returns c = accounts
