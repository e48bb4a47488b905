use Rattle.ap_gen.proofs.Starting.{known_are_slow, leads_are_controlled}
use Rattle.ap_gen.proofs.laws.top_can_start.Goals as goal

pub returns-clause-leads : goal.returns-clause-leads
returns-clause-leads c = leads_are_controlled c.open_fronts_stand.ensures c.lead_leaves_rest.ensures

pub returns-clause-modules : goal.returns-clause-modules
returns-clause-modules c = known_are_slow
