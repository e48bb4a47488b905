use Rattle.ap_lead.proofs.SeenNets.{leads_are_seen}
use Rattle.ap_lead.proofs.laws.lead_is_seen.Goals as goal

pub returns : goal.returns
returns c = leads_are_seen
