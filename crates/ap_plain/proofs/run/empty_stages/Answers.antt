use Rattle.std.proofs.Common.{◌∷◌, ◌++◌, [], None, ap, ◌∙◌}
use Rattle.ap_plain.proofs.RunLemmas.{empty_more}
use Rattle.ap_plain.proofs.run.empty_stages.Goals as goal

pub loop-preserved : goal.loop-preserved
loop-preserved c = c.in_ok-push.ensures.ok ∙ ap (λ fs. fs ++ None ∷ []) c.loop.invariant ∙ empty_more c.loop.counter None
