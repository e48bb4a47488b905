use Rattle.ap_lead.proofs.Led.{leads_follow}
use Rattle.ap_lead.proofs.laws.leads_follow.Goals as goal

pub returns : goal.returns
returns c = leads_follow
