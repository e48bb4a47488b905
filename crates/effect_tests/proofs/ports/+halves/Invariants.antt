use Rattle.std.proofs.Common.{◌-◌}
use Rattle.effect_tests.proofs.ports.+halves.Given as goal

abbrev pub decreases-halves : goal.decreases-halves
decreases-halves l = l.to - l.from
