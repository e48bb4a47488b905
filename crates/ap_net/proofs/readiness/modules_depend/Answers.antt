use Rattle.ap_net.proofs.Depending.{depend_on_all, depend_on_needed}
use Rattle.ap_net.proofs.readiness.modules_depend.Goals as goal

pub returns-clause-all : goal.returns-clause-all
returns-clause-all c = depend_on_all

pub returns-clause-needed : goal.returns-clause-needed
returns-clause-needed c = depend_on_needed
