use Rattle.ap_rest.proofs.Used.{unused_are_none, used_are_nodes}
use Rattle.ap_rest.proofs.laws.used_ports_are_nodes.Goals as goal

pub returns-clause-used : goal.returns-clause-used
returns-clause-used c = used_are_nodes c.clean_ports_are_apart.ensures

pub returns-clause-unused : goal.returns-clause-unused
returns-clause-unused c = unused_are_none
