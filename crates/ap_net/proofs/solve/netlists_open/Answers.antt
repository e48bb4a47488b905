use Rattle.ap_net.proofs.solve.netlists_open.Goals as goal
use Rattle.ap_net.proofs.OpenNetlists.{netlists_open}

pub returns : goal.returns
returns c = netlists_open
