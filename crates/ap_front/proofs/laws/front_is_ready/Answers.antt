use Rattle.ap_front.proofs.Readied.{control_stands, front_gives_control, open_can_be_driven}
use Rattle.ap_front.proofs.laws.front_is_ready.Goals as goal

pub returns-clause-driven : goal.returns-clause-driven
returns-clause-driven c = open_can_be_driven

pub returns-clause-given : goal.returns-clause-given
returns-clause-given c = front_gives_control

pub returns-clause-control : goal.returns-clause-control
returns-clause-control c = control_stands
