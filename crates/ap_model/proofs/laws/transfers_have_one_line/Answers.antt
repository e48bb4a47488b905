use Rattle.ap_model.proofs.MachineLaws.{targets_by_line}
use Rattle.ap_model.proofs.laws.transfers_have_one_line.Goals as goal

pub returns : goal.returns
returns c = targets_by_line
