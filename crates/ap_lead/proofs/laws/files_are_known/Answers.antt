use Rattle.ap_lead.proofs.Stored.{files_are_known}
use Rattle.ap_lead.proofs.laws.files_are_known.Goals as goal

pub returns : goal.returns
returns c = files_are_known
