use Rattle.std.proofs.Common.{◌-◌}
use Rattle.ap_act.proofs.select.+halves.Given as goal

abbrev pub decreases-halves : goal.decreases-halves
decreases-halves l = l.to - l.from
