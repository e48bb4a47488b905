use Rattle.ap_border.proofs.ProcessorShown.{processors_are_circuits, processors_are_the_machine, processors_have_registers}
use Rattle.ap_border.proofs.laws.processors_are_the_machine.Goals as goal

pub returns-clause-circuits : goal.returns-clause-circuits
returns-clause-circuits c = processors_are_circuits c.cells_go_alone.ensures

pub returns-clause-registers : goal.returns-clause-registers
returns-clause-registers c = processors_have_registers c.cells_go_alone.ensures

pub returns-clause-machine : goal.returns-clause-machine
returns-clause-machine c = processors_are_the_machine c.cells_go_alone.ensures
