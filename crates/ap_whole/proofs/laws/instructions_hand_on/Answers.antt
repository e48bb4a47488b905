use Rattle.ap_whole.proofs.Handed.{lines_are_written, locals_are_left}
use Rattle.ap_whole.proofs.laws.instructions_hand_on.Goals as goal

pub returns-clause-writes : goal.returns-clause-writes
returns-clause-writes c = lines_are_written

pub returns-clause-leaves : goal.returns-clause-leaves
returns-clause-leaves c = locals_are_left
