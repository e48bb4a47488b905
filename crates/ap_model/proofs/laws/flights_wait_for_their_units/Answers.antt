use Rattle.ap_model.proofs.MachineLaws.{needs_its_units, needs_latency}
use Rattle.ap_model.proofs.laws.flights_wait_for_their_units.Goals as goal

pub returns-clause-units : goal.returns-clause-units
returns-clause-units c = needs_its_units

pub returns-clause-latency : goal.returns-clause-latency
returns-clause-latency c = needs_latency
