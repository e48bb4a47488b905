use Rattle.std.proofs.Common.{ap, ◌∙◌}
use Rattle.ap_flat.proofs.OpeningSteps.{opened_from, opened_whole}
use Rattle.ap_flat.proofs.opening.open_over.Goals as goal

pub loop-instance-init : goal.loop-instance-init
loop-instance-init c = ap (opened_from c.args.modules.now c.args.top.now.instances) c.in_ok-opening.ensures ∙ opened_whole c.args.modules.now c.args.top.now
