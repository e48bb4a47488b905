use Rattle.ap_cycle.proofs.SmallCircuits.{setter_fits, small_is_circuit}
use Rattle.ap_cycle.proofs.laws.the_small_circuit_meets_the_border.Goals as goal

pub returns-clause-fits : goal.returns-clause-fits
returns-clause-fits c = setter_fits

pub returns-clause-meets : goal.returns-clause-meets
returns-clause-meets c = small_is_circuit
