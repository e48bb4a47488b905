use Rattle.ap_signals.proofs.NetStates.{net_keeps}
use Rattle.ap_signals.proofs.laws.netlists_keep_what_signals_keep.Goals as goal

pub returns : goal.returns
returns c = net_keeps
