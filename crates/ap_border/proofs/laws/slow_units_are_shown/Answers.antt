use Rattle.ap_border.proofs.SlowUnitsShown.{ages_are_shown, busy_is_shown}
use Rattle.ap_border.proofs.laws.slow_units_are_shown.Goals as goal

pub returns-clause-ages : goal.returns-clause-ages
returns-clause-ages c = ages_are_shown

pub returns-clause-busy : goal.returns-clause-busy
returns-clause-busy c = busy_is_shown
