use Rattle.ap_net.proofs.Alone.{parts_run_alone}
use Rattle.ap_net.proofs.solve.parts_run_alone.Goals as goal

pub returns : goal.returns
returns c = parts_run_alone
