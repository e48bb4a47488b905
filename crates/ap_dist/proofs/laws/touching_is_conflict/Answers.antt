use Rattle.ap_dist.proofs.Bounds.{touching_conflict}
use Rattle.ap_dist.proofs.laws.touching_is_conflict.Goals as goal

pub returns : goal.returns
returns c = touching_conflict
