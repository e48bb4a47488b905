use Rattle.std.proofs.Common.{sym, ◌∙◌, arith}
use Rattle.ap_slow.proofs.Stage.{left_more}
use Rattle.ap_slow.proofs.drive.unit_stage.Goals as goal

pub loop-stage-preserved : goal.loop-stage-preserved
loop-stage-preserved c = c.loop-stage.invariant ∙ left_more c.args.design.now c.args.unit c.loop-stage.stage (omega arith) (sym c.is_used_in.ensures ∙ c.if-is_used_in.false)
