use Rattle.ap_lead.proofs.Led.{files_are_instances}
use Rattle.ap_lead.proofs.laws.files_are_instances.Goals as goal

pub returns : goal.returns
returns c = files_are_instances
