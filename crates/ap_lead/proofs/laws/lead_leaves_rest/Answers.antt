use Rattle.ap_lead.proofs.Leaving.{leads_leave_rest}
use Rattle.ap_lead.proofs.laws.lead_leaves_rest.Goals as goal

pub returns : goal.returns
returns c = leads_leave_rest
