use Rattle.std.proofs.Common.{◌-◌}
use Rattle.stage_tests.proofs.nets.+halves.Given as goal

abbrev pub decreases-halves : goal.decreases-halves
decreases-halves l = l.to - l.from
