use Rattle.ap_course.proofs.Fitting.{fit_files, fit_mems, fit_units}
use Rattle.ap_course.proofs.laws.users_fit_nodes.Goals as goal

pub returns-clause-units : goal.returns-clause-units
returns-clause-units c = fit_units

pub returns-clause-files : goal.returns-clause-files
returns-clause-files c = fit_files

pub returns-clause-mems : goal.returns-clause-mems
returns-clause-mems c = fit_mems
