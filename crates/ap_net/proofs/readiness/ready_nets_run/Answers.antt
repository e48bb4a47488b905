use Rattle.ap_net.proofs.Running.{cycles_run, ready_run}
use Rattle.ap_net.proofs.readiness.ready_nets_run.Goals as goal

pub returns-clause-cycles : goal.returns-clause-cycles
returns-clause-cycles c = cycles_run

pub returns-clause-runs : goal.returns-clause-runs
returns-clause-runs c = ready_run
