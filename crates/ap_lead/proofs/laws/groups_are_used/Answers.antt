use Rattle.ap_lead.proofs.IdlePorts.{groups_are_of_used}
use Rattle.ap_lead.proofs.laws.groups_are_used.Goals as goal

pub returns : goal.returns
returns c = groups_are_of_used
