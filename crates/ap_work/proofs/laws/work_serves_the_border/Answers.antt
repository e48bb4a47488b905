use Rattle.ap_work.proofs.Serving.{work_serves_border}
use Rattle.ap_work.proofs.laws.work_serves_the_border.Goals as goal

pub returns : goal.returns
returns c = work_serves_border c.served_units_give_the_border.ensures.units
