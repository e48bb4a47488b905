use Rattle.ap_lead.proofs.Leaving.{known_files_need}
use Rattle.ap_lead.proofs.laws.files_need_as_known.Goals as goal

pub returns : goal.returns
returns c = known_files_need
