use Rattle.std.proofs.Common.{subst, sym}
use Rattle.ap_sim.specs.RowLines.{Shows}
use Rattle.ap_sim.proofs.RowSteps.{begun_shows}
use Rattle.ap_sim.proofs.rows.Rows.new.Goals as goal

pub returns-clause-shows : goal.returns-clause-shows
returns-clause-shows c = λ lines shown.
    subst (λ b. Shows (record { bench = b; trace = c.args.trace.now; next = 0; cycles = c.args.cycles }) lines) (sym c.in_ok-bench.ensures)
    (begun_shows c.benches_follow_runs.ensures.starts c.args.flat.now c.rules.ensures c.args.image c.args.trace.now c.args.cycles lines shown)
