use Rattle.ap_rest.proofs.Standing.{idle_are_nowhere, quick_are_somewhere}
use Rattle.ap_rest.proofs.laws.idle_units_are_unused.Goals as goal

pub returns-clause-somewhere : goal.returns-clause-somewhere
returns-clause-somewhere c = quick_are_somewhere c.used_ports_are_nodes.ensures.used

pub returns-clause-nowhere : goal.returns-clause-nowhere
returns-clause-nowhere c = idle_are_nowhere c.used_ports_are_nodes.ensures.unused
