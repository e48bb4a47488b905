use Rattle.ap_flow.proofs.Followed.{flows_follow}
use Rattle.ap_flow.proofs.laws.flows_follow.Goals as goal

pub returns : goal.returns
returns c = flows_follow
