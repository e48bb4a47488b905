use Rattle.ap_signals.proofs.NetMachine.{net_keeps_machine, net_shows_machine}
use Rattle.ap_signals.proofs.laws.netlists_are_the_machine.Goals as goal

pub returns-clause-keeps : goal.returns-clause-keeps
returns-clause-keeps c = net_keeps_machine

pub returns-clause-rows : goal.returns-clause-rows
returns-clause-rows c = net_shows_machine
