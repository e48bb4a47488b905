use Rattle.ap_rest.proofs.Fitted.{idles_grow, rests_grow}
use Rattle.ap_rest.proofs.Standing.{idles_leave_names}
use Rattle.ap_rest.proofs.laws.rests_grow.Goals as goal

pub returns-clause-idle : goal.returns-clause-idle
returns-clause-idle c = idles_grow

pub returns-clause-rest : goal.returns-clause-rest
returns-clause-rest c = rests_grow

pub returns-clause-names : goal.returns-clause-names
returns-clause-names c = idles_leave_names
