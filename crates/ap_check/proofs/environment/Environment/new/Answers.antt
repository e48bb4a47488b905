use Rattle.ap_check.proofs.Started.{started}
use Rattle.ap_check.proofs.environment.Environment.new.Goals as goal

pub returns : goal.returns
returns c = λ cards statements. started cards statements c.new.result c.new-2.result c.new.ensures c.new-2.ensures
