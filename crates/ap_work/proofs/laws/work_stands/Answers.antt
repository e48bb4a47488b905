use Rattle.ap_work.proofs.Standing.{work_is_controlled, work_stands}
use Rattle.ap_work.proofs.laws.work_stands.Goals as goal

pub returns-clause-nets : goal.returns-clause-nets
returns-clause-nets c = work_stands

pub returns-clause-controlled : goal.returns-clause-controlled
returns-clause-controlled c = work_is_controlled
