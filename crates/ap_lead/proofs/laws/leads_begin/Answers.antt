use Rattle.ap_lead.proofs.SeenNets.{leads_begin}
use Rattle.ap_lead.proofs.laws.leads_begin.Goals as goal

pub returns : goal.returns
returns c = leads_begin
