use Rattle.std.proofs.Common.{arith}
use Rattle.ap_slow.proofs.DrivenAll.{stage_within}
use Rattle.ap_slow.proofs.drive.drive_unit.Goals as goal

pub drive_used-requires-clause-high : goal.drive_used-requires-clause-high
drive_used-requires-clause-high c = stage_within c.args.design.now c.args.placed.unit c.unit_stage-stage.result c.unit_stage-stage.ensures (omega arith)
