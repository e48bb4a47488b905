use Rattle.ap_front.proofs.PortNames.{ports_are_new}
use Rattle.ap_front.proofs.laws.ports_are_new.Goals as goal

pub returns : goal.returns
returns c = ports_are_new
