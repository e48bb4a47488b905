use Rattle.std.proofs.Common.{◌≡◌, ◌+◌, ◌-◌, ◌≤◌, length}
use Rattle.ap_flow.specs.Left.{EachLeft}
use Rattle.ap_flow.proofs.leave.all_leavings.Given as goal

abbrev pub invariant-loop-stage : goal.invariant-loop-stage
invariant-loop-stage l = record {
  left : EachLeft l.slots l.stages l.locals;
  count : length l.locals + 1 ≡ l.stage;
  within : l.stage - 1 ≤ l.design.stages - 1;
}
