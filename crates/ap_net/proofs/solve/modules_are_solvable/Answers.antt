use Rattle.ap_net.proofs.Alone.{modules_are_solvable, agree_on_closed_sets}
use Rattle.ap_net.proofs.solve.modules_are_solvable.Goals as goal

pub returns-clause-solvable : goal.returns-clause-solvable
returns-clause-solvable c = modules_are_solvable

pub returns-clause-agreeing : goal.returns-clause-agreeing
returns-clause-agreeing c = agree_on_closed_sets
