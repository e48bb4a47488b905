use Rattle.ap_signals.proofs.NetMachine.{same_inputs}
use Rattle.ap_signals.proofs.NetRows.{net_rows}
use Rattle.ap_signals.proofs.laws.netlists_show_their_signals.Goals as goal

pub returns-clause-rows : goal.returns-clause-rows
returns-clause-rows c = net_rows

pub returns-clause-inputs : goal.returns-clause-inputs
returns-clause-inputs c = same_inputs
