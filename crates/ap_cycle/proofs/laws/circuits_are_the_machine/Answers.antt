use Rattle.ap_cycle.proofs.Circuits.{circuit_holds, circuit_rows}
use Rattle.ap_cycle.proofs.laws.circuits_are_the_machine.Goals as goal

pub returns-clause-keeps : goal.returns-clause-keeps
returns-clause-keeps c = circuit_holds

pub returns-clause-rows : goal.returns-clause-rows
returns-clause-rows c = circuit_rows
