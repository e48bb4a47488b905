use Rattle.ap_model.proofs.MachineLaws.{flights_have_locals, none_live_first}
use Rattle.ap_model.proofs.laws.flights_have_their_locals.Goals as goal

pub returns-clause-count : goal.returns-clause-count
returns-clause-count c = flights_have_locals

pub returns-clause-first : goal.returns-clause-first
returns-clause-first c = none_live_first
