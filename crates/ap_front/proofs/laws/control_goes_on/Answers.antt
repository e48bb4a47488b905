use Rattle.ap_front.proofs.Controlled.{busy_later, controlled_later}
use Rattle.ap_front.proofs.laws.control_goes_on.Goals as goal

pub returns-clause-control : goal.returns-clause-control
returns-clause-control c = controlled_later

pub returns-clause-busy : goal.returns-clause-busy
returns-clause-busy c = busy_later
