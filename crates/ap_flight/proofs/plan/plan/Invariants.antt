use Rattle.std.proofs.Common.{◌≡◌, ◌++◌, drop}
use Rattle.ap_flight.specs.Planned.{slots_from, stage_plan}
use Rattle.ap_flight.proofs.plan.plan.Given as goal

-- what is planned so far, and the slots from here on
abbrev pub invariant-loop-number : goal.invariant-loop-number
invariant-loop-number l = stage_plan l.design l.stage l.widths ≡ l.made ++ slots_from l.stage l.number (drop l.number l.widths)
