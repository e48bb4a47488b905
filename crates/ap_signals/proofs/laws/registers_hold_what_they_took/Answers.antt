use Rattle.ap_signals.proofs.NetMachine.{taken_is_held}
use Rattle.ap_signals.proofs.laws.registers_hold_what_they_took.Goals as goal

pub returns : goal.returns
returns c = taken_is_held
