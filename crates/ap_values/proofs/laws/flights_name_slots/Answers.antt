use Rattle.ap_values.proofs.Slots.{flights_name_slots}
use Rattle.ap_values.proofs.laws.flights_name_slots.Goals as goal

pub returns : goal.returns
returns c = flights_name_slots
