use Rattle.ap_sim.proofs.Judging.{faultless_taken, one_shape, runnable_faultless}
use Rattle.ap_sim.proofs.laws.texts_are_judged_in_one_way.Goals as goal

pub returns-clause-runnable : goal.returns-clause-runnable
returns-clause-runnable c = runnable_faultless

pub returns-clause-shape : goal.returns-clause-shape
returns-clause-shape c = one_shape

pub returns-clause-faultless : goal.returns-clause-faultless
returns-clause-faultless c = faultless_taken
