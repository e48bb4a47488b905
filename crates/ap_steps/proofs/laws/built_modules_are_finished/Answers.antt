use Rattle.ap_steps.proofs.Built.{built_are_finished, built_can_finish, built_end_netlists}
use Rattle.ap_steps.proofs.laws.built_modules_are_finished.Goals as goal

pub returns-clause-can : goal.returns-clause-can
returns-clause-can c = built_can_finish

pub returns-clause-finished : goal.returns-clause-finished
returns-clause-finished c = built_are_finished

pub returns-clause-netlist : goal.returns-clause-netlist
returns-clause-netlist c = built_end_netlists
