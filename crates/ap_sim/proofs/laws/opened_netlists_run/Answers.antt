use Rattle.ap_sim.proofs.RunExists.{always_runs}
use Rattle.ap_sim.proofs.laws.opened_netlists_run.Goals as goal

pub returns : goal.returns
returns c = always_runs
