use Rattle.ap_gen.proofs.OrderFits.{tops_fit_parts}
use Rattle.ap_gen.proofs.laws.tops_fit_parts.Goals as goal

pub returns : goal.returns
returns c = tops_fit_parts
