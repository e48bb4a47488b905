use Rattle.ap_work.proofs.Standing.{open_fronts_stand}
use Rattle.ap_work.proofs.laws.open_fronts_stand.Goals as goal

pub returns : goal.returns
returns c = open_fronts_stand
