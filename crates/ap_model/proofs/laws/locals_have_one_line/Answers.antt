use Rattle.ap_model.proofs.MachineLaws.{fires_by_line}
use Rattle.ap_model.proofs.laws.locals_have_one_line.Goals as goal

pub returns : goal.returns
returns c = fires_by_line
