use Rattle.ap_border.proofs.ProcessorShown.{processors_are_the_machine}
use Rattle.ap_border.proofs.StagesShown.{data_are_shown}
use Rattle.ap_border.proofs.laws.complete_processors_are_the_machine.Goals as goal

pub returns-clause-data_shown : goal.returns-clause-data_shown
returns-clause-data_shown c = data_are_shown

pub returns-clause-machine : goal.returns-clause-machine
returns-clause-machine c = λ design cards image trace run n reading fits p d.
    processors_are_the_machine c.cells_go_alone.ensures design cards image trace run n reading fits p (data_are_shown design cards image trace run n reading p d)
