use Rattle.ap_model.proofs.MachineLaws.{writes_by_line}
use Rattle.ap_model.proofs.laws.ports_have_one_line.Goals as goal

pub returns : goal.returns
returns c = writes_by_line
