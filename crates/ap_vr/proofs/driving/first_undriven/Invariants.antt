use Rattle.std.proofs.Common.{◌≡◌, drop}
use Rattle.ap_vr.specs.Driving.{first_undriven}
use Rattle.ap_vr.specs.Marks.{marks}
use Rattle.ap_vr.proofs.driving.first_undriven.Given as goal

-- what is left has the first net without a driver
abbrev pub invariant-loop-number : goal.invariant-loop-number
invariant-loop-number l = first_undriven (marks l.marked) l.number (drop l.number l.forms) ≡ first_undriven (marks l.marked) 0 l.forms
