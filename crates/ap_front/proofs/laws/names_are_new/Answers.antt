use Rattle.ap_front.proofs.NewNames.{front_is_new, ports_leave_names, registers_leave_names, wires_leave_names}
use Rattle.ap_front.proofs.laws.names_are_new.Goals as goal

pub returns-clause-ports : goal.returns-clause-ports
returns-clause-ports c = ports_leave_names

pub returns-clause-front : goal.returns-clause-front
returns-clause-front c = front_is_new

pub returns-clause-registers : goal.returns-clause-registers
returns-clause-registers c = registers_leave_names

pub returns-clause-wires : goal.returns-clause-wires
returns-clause-wires c = wires_leave_names
