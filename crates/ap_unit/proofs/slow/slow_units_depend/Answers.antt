use Rattle.ap_unit.proofs.SlowUnits.{slow_units_depend}
use Rattle.ap_unit.proofs.slow.slow_units_depend.Goals as goal

pub returns : goal.returns
returns c = slow_units_depend
