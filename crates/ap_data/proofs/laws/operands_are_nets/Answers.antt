use Rattle.ap_data.proofs.Operands.{operands_are_nets}
use Rattle.ap_data.proofs.laws.operands_are_nets.Goals as goal

pub returns : goal.returns
returns c = operands_are_nets
