use Rattle.std.proofs.Common.{true}
use Rattle.ap_sim.proofs.RowSteps.{makes_line}
use Rattle.ap_sim.proofs.rows.Rows.line.Goals as goal

pub returns-clause-shows : goal.returns-clause-shows
returns-clause-shows c = makes_line c.benches_follow_runs.ensures.steps c.args.self.now c.make.new.self c.args.out.now.items c.make.new.out.items true c.in_ok-make.ensures
