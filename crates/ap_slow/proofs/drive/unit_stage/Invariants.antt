use Rattle.std.proofs.Common.{◌≡◌}
use Rattle.ap_slow.proofs.Stage.{left_of}
use Rattle.ap_slow.proofs.drive.unit_stage.Given as goal

abbrev pub invariant-loop-stage : goal.invariant-loop-stage
invariant-loop-stage l = left_of l.design l.unit 1 ≡ left_of l.design l.unit l.stage
