use Rattle.ap_desc.proofs.Closing.{edges_up_to, some_line_closes}
use Rattle.ap_desc.proofs.laws.loops_are_closed.Goals as goal

pub returns-clause-closes : goal.returns-clause-closes
returns-clause-closes c = some_line_closes

pub returns-clause-up_to : goal.returns-clause-up_to
returns-clause-up_to c = edges_up_to
