use Rattle.ap_flow.proofs.Followed.{flows_grow}
use Rattle.ap_flow.proofs.laws.flows_grow.Goals as goal

pub returns : goal.returns
returns c = flows_grow
