use Rattle.ap_outcome.proofs.Fitting.{line_writers_fit}
use Rattle.ap_outcome.proofs.Later.{line_writers_go_on}
use Rattle.ap_outcome.proofs.laws.line_writers_fit.Goals as goal

pub returns-clause-fit : goal.returns-clause-fit
returns-clause-fit c = line_writers_fit

pub returns-clause-go_on : goal.returns-clause-go_on
returns-clause-go_on c = line_writers_go_on
