use Rattle.ap_front.proofs.Flying.{flying_later}
use Rattle.ap_front.proofs.laws.flights_go_on.Goals as goal

pub returns : goal.returns
returns c = flying_later
