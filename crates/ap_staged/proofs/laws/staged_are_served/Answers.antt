use Rattle.ap_staged.proofs.Served.{staged_served}
use Rattle.ap_staged.proofs.laws.staged_are_served.Goals as goal

pub returns : goal.returns
returns c = staged_served
