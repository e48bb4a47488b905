use Rattle.std.proofs.Common.{take}
use Rattle.ap_ctl.specs.Lists.{EachPair}
use Rattle.ap_outcome.specs.Outcomes.{IsLeavingOf}
use Rattle.ap_outcome.proofs.leave.leavings.Given as goal

abbrev pub invariant-loop-home : goal.invariant-loop-home
invariant-loop-home l = EachPair (IsLeavingOf l.courses) (take l.home-index l.homes) l.list
