use Rattle.ap_gen.proofs.OrderWhole.{tops_are_ordered}
use Rattle.ap_gen.proofs.laws.tops_are_ordered.Goals as goal

pub returns : goal.returns
returns c = tops_are_ordered c.reads_are_served.ensures.driven
