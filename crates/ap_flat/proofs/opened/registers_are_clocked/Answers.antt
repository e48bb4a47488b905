use Rattle.ap_flat.proofs.Clocked.{opened_are_clocked}
use Rattle.ap_flat.proofs.opened.registers_are_clocked.Goals as goal

pub returns : goal.returns
returns c = opened_are_clocked
