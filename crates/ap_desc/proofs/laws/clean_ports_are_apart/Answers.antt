use Rattle.ap_desc.proofs.OnePort.{clean_apart}
use Rattle.ap_desc.proofs.laws.clean_ports_are_apart.Goals as goal

pub returns : goal.returns
returns c = clean_apart
