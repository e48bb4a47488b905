use Rattle.std.proofs.Common.{add-one, ap, ◌∙◌, ◌++◌, ◌∷◌, [], ℕ, List}
use Rattle.ap_sim.proofs.RowSteps.{zeros_more}
use Rattle.ap_sim.proofs.rows.idle.Goals as goal

pub loop-preserved : goal.loop-preserved
loop-preserved c = rw add-one (c.in_ok-push.ensures.ok ∙ ap (λ (l : List ℕ). l ++ 0 ∷ []) c.loop.invariant ∙ zeros_more c.args.inputs.now c.loop.index c.loop-test.true)
