use Rattle.ap_runs.proofs.ReadRuns.{runs_are_read}
use Rattle.ap_runs.proofs.laws.runs_are_read.Goals as goal

pub returns : goal.returns
returns c = runs_are_read
