use Rattle.ap_parts.proofs.KnownParts.{files_are_found, instances_fit, units_are_found}
use Rattle.ap_parts.proofs.laws.parts_are_found.Goals as goal

pub returns-clause-units : goal.returns-clause-units
returns-clause-units c = units_are_found

pub returns-clause-files : goal.returns-clause-files
returns-clause-files c = files_are_found

pub returns-clause-fit : goal.returns-clause-fit
returns-clause-fit c = instances_fit
