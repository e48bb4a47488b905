use Rattle.ap_front.proofs.PortNets.{ports_are_nets}
use Rattle.ap_front.proofs.laws.ports_are_nets.Goals as goal

pub returns : goal.returns
returns c = ports_are_nets
