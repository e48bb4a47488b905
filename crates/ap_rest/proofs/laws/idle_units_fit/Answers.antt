use Rattle.ap_rest.proofs.Fitted.{idle_fit_parts, known_are_quick}
use Rattle.ap_rest.proofs.laws.idle_units_fit.Goals as goal

pub returns-clause-known : goal.returns-clause-known
returns-clause-known c = known_are_quick

pub returns-clause-fit : goal.returns-clause-fit
returns-clause-fit c = idle_fit_parts c.parts_are_found.ensures.units c.parts_are_found.ensures.fit
