use Rattle.ap_front.proofs.Opened.{names_go_on}
use Rattle.ap_front.proofs.laws.names_go_on.Goals as goal

pub returns : goal.returns
returns c = names_go_on
