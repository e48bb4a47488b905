use Rattle.ap_built.proofs.Front.{fronts_give_border}
use Rattle.ap_built.proofs.laws.fronts_give_the_border.Goals as goal

pub returns : goal.returns
returns c = fronts_give_border c.homes_are_found.ensures
