use Rattle.ap_outcome.proofs.Fitting.{leavings_among, leavings_fit}
use Rattle.ap_outcome.proofs.laws.leavings_fit.Goals as goal

pub returns-clause-fit : goal.returns-clause-fit
returns-clause-fit c = leavings_fit

pub returns-clause-among : goal.returns-clause-among
returns-clause-among c = leavings_among
