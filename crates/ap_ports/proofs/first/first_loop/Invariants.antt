use Rattle.ap_ports.specs.Firsts.{IsFirst}
use Rattle.ap_ports.proofs.Loops.{ClosesBelow}
use Rattle.ap_ports.proofs.first.first_loop.Given as goal

abbrev pub invariant-loop-stage : goal.invariant-loop-stage
invariant-loop-stage l = IsFirst (ClosesBelow l.design l.stage) l.least
