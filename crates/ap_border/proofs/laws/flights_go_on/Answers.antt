use Rattle.ap_border.proofs.FlightsShown.{flights_go_on}
use Rattle.ap_border.proofs.laws.flights_go_on.Goals as goal

pub returns : goal.returns
returns c = flights_go_on
