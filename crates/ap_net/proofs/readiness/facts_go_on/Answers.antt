use Rattle.ap_net.proofs.Facts.{settled_before}
use Rattle.ap_net.proofs.readiness.facts_go_on.Goals as goal

pub returns : goal.returns
returns c = λ a b e r s. settled_before e r s
