use Rattle.ap_work.proofs.Grown.{known_units_need}
use Rattle.ap_work.proofs.Ordered.{work_follows}
use Rattle.ap_work.proofs.laws.work_follows.Goals as goal

pub returns-clause-follows : goal.returns-clause-follows
returns-clause-follows c = work_follows

pub returns-clause-needs : goal.returns-clause-needs
returns-clause-needs c = known_units_need
