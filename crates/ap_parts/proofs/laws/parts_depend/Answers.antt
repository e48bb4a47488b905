use Rattle.ap_parts.proofs.KnownParts.{files_need, units_need}
use Rattle.ap_parts.proofs.laws.parts_depend.Goals as goal

pub returns-clause-units : goal.returns-clause-units
returns-clause-units c = units_need

pub returns-clause-files : goal.returns-clause-files
returns-clause-files c = files_need
