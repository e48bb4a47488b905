use Rattle.ap_pipe.proofs.HomeLemmas.{AreSlotsTo}
use Rattle.ap_pipe.proofs.homes.slots.Given as goal

abbrev pub invariant-loop-stage : goal.invariant-loop-stage
invariant-loop-stage l = AreSlotsTo l.design l.stage l.stages
