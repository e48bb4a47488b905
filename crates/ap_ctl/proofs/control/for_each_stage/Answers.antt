use Rattle.std.proofs.Common.{◌∷◌, ◌++◌, [], ap, ◌∙◌}
use Rattle.ap_ctl.proofs.Beside.{replicate-push}
use Rattle.ap_ctl.proofs.control.for_each_stage.Goals as goal

pub loop-preserved : goal.loop-preserved
loop-preserved c = c.in_ok-push.ensures.ok ∙ ap (λ ns. ns ++ c.args.net ∷ []) c.loop.invariant ∙ replicate-push c.loop.counter c.args.net
