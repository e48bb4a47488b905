use Rattle.ap_staged.proofs.Stages.{staged_are_of, staged_stand_over}
use Rattle.ap_staged.proofs.laws.staged_are_of.Goals as goal

pub returns-clause-stages : goal.returns-clause-stages
returns-clause-stages c = staged_are_of c.served_stages_are_of.ensures

pub returns-clause-over : goal.returns-clause-over
returns-clause-over c = staged_stand_over
