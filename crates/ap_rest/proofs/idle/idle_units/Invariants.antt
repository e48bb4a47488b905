use Rattle.ap_rest.specs.Idle.{IdlesUnits}
use Rattle.ap_rest.proofs.IdleAll.{idle_before}
use Rattle.ap_rest.proofs.idle.idle_units.Given as goal

abbrev pub invariant-loop-number : goal.invariant-loop-number
invariant-loop-number l = IdlesUnits l.design l.modules l.places (idle_before l.design l.number) l.fn.out l.out
