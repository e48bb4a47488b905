use Rattle.ap_flow.proofs.Border.{flows_leave}
use Rattle.ap_flow.proofs.laws.flows_leave.Goals as goal

pub returns : goal.returns
returns c = flows_leave c.leaving_stands.ensures c.homes_are_found.ensures
