use Rattle.ap_front.proofs.Controlled.{control_gives_border, holds_each_stage}
use Rattle.ap_front.proofs.laws.control_gives_the_border.Goals as goal

pub returns-clause-control : goal.returns-clause-control
returns-clause-control c = control_gives_border

pub returns-clause-held : goal.returns-clause-held
returns-clause-held c = holds_each_stage
