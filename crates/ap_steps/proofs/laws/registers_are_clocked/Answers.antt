use Rattle.ap_steps.proofs.Clocked.{registers_are_clocked}
use Rattle.ap_steps.proofs.laws.registers_are_clocked.Goals as goal

pub returns : goal.returns
returns c = registers_are_clocked
