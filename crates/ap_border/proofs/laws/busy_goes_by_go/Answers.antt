use Rattle.ap_border.proofs.BusyByGo.{busy_goes_by_go}
use Rattle.ap_border.proofs.laws.busy_goes_by_go.Goals as goal

pub returns : goal.returns
returns c = busy_goes_by_go
