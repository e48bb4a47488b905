use Rattle.ap_flow.proofs.Border.{flows_give_front}
use Rattle.ap_flow.proofs.laws.flows_give_the_front.Goals as goal

pub returns : goal.returns
returns c = flows_give_front
