use Rattle.ap_stage.proofs.Showing.{lines_are_shown, ports_are_shown}
use Rattle.ap_stage.proofs.laws.stages_are_shown.Goals as goal

pub returns-clause-ports : goal.returns-clause-ports
returns-clause-ports c = ports_are_shown

pub returns-clause-lines : goal.returns-clause-lines
returns-clause-lines c = lines_are_shown
