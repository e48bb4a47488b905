use Rattle.std.proofs.Common.{◌-◌}
use Rattle.ap_merge.proofs.select.+balanced.Given as goal

abbrev pub decreases-balanced : goal.decreases-balanced
decreases-balanced l = l.to - l.from
