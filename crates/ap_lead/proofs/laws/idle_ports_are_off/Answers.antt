use Rattle.ap_lead.proofs.IdlePorts.{idle_ports_have_none, new_names_are_off}
use Rattle.ap_lead.proofs.laws.idle_ports_are_off.Goals as goal

pub returns-clause-none : goal.returns-clause-none
returns-clause-none c = idle_ports_have_none

pub returns-clause-off : goal.returns-clause-off
returns-clause-off c = new_names_are_off
