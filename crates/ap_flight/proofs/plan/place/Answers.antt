use Rattle.std.proofs.Common.{◌∙◌}
use Rattle.ap_flight.proofs.plan.place.Goals as goal

pub returns-clause-name : goal.returns-clause-name
returns-clause-name c = c.in_ok-name-2.ensures ∙ c.as_bytes.ensures.value ∙ c.in_ok-name.ensures.ok
