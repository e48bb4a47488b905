use Rattle.ap_signals.proofs.Asked.{aging, properly}
use Rattle.ap_signals.proofs.laws.units_are_asked_properly.Goals as goal

pub returns-clause-proper : goal.returns-clause-proper
returns-clause-proper c = properly

pub returns-clause-ages : goal.returns-clause-ages
returns-clause-ages c = aging
