use Rattle.ap_eval.proofs.Following.{bench_steps}
use Rattle.ap_eval.proofs.bench.benches_follow_runs.Goals as goal

pub returns-clause-steps : goal.returns-clause-steps
returns-clause-steps c = bench_steps
