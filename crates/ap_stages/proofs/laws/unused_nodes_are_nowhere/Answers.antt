use Rattle.ap_stages.proofs.Around.{unnamed, unused}
use Rattle.ap_stages.proofs.laws.unused_nodes_are_nowhere.Goals as goal

pub returns-clause-orders : goal.returns-clause-orders
returns-clause-orders c = λ design cards orders x fits are numbered none k order j y at there same. unused design cards orders x fits are numbered none k order j y at there same

pub returns-clause-names : goal.returns-clause-names
returns-clause-names c = λ design orders v u clean at nowhere w q q_at same. unnamed design orders v u clean at nowhere w q q_at same
