use Rattle.ap_work.proofs.Grown.{work_fits_parts, work_grows}
use Rattle.ap_work.proofs.laws.work_grows.Goals as goal

pub returns-clause-grows : goal.returns-clause-grows
returns-clause-grows c = work_grows

pub returns-clause-parts : goal.returns-clause-parts
returns-clause-parts c = work_fits_parts
