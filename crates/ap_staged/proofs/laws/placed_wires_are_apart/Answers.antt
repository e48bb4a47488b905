use Rattle.ap_staged.proofs.Separate.{placed_wires_are_apart}
use Rattle.ap_staged.proofs.laws.placed_wires_are_apart.Goals as goal

pub returns : goal.returns
returns c = placed_wires_are_apart
