use Rattle.ap_lead.proofs.FilesStanding.{lead_files_stand}
use Rattle.ap_lead.proofs.laws.lead_files_stand.Goals as goal

pub returns : goal.returns
returns c = lead_files_stand
