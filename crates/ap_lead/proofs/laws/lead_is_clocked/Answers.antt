use Rattle.ap_lead.proofs.SeenNets.{regs_are_clocked}
use Rattle.ap_lead.proofs.laws.lead_is_clocked.Goals as goal

pub returns : goal.returns
returns c = regs_are_clocked
