use Rattle.ap_front.proofs.Flying.{flights_give_border}
use Rattle.ap_front.proofs.laws.flights_give_the_border.Goals as goal

pub returns : goal.returns
returns c = flights_give_border
