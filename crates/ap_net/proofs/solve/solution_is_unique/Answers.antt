use Rattle.ap_net.proofs.solve.solution_is_unique.Goals as goal
use Rattle.ap_net.proofs.Unique.{solved_once, agreeing_are_equal}

pub returns-clause-given : goal.returns-clause-given
returns-clause-given c = solved_once

pub returns-clause-agreeing : goal.returns-clause-agreeing
returns-clause-agreeing c = agreeing_are_equal
