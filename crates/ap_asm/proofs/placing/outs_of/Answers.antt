use Rattle.std.proofs.Common.{◌∷◌, ◌++◌, [], ap, ◌∙◌}
use Rattle.ap_dist.specs.Distances.{instr_out}
use Rattle.ap_asm.proofs.Drains.{outs_more}
use Rattle.ap_asm.proofs.placing.outs_of.Goals as goal

pub loop-instr-preserved : goal.loop-instr-preserved
loop-instr-preserved c =
    c.in_ok-push.ensures.ok ∙ ap (λ l. l ++ c.out.result ∷ []) c.loop-instr.invariant ∙ outs_more (instr_out c.args.design.now) c.args.design.now.instrs c.loop-instr.instr c.out.result c.out.ensures.value
