use Rattle.ap_ctl.proofs.Border.{gives_border}
use Rattle.ap_ctl.proofs.laws.control_gives_the_border.Goals as goal

pub returns : goal.returns
returns c = gives_border
