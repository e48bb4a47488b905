use Rattle.ap_built.proofs.Ordered.{ordered_tops_are_built}
use Rattle.ap_built.proofs.laws.ordered_tops_are_built.Goals as goal

pub returns : goal.returns
returns c = ordered_tops_are_built c.tops_are_ready.ensures
