use Rattle.ap_bank.proofs.StagesFound.{few_stages, stages_below, stages_push}
use Rattle.ap_bank.proofs.stages.write_stages.Goals as goal

pub loop-number-preserved : goal.loop-number-preserved
loop-number-preserved c = rw c.in_ok-push.ensures.ok (stages_push c.args.design.now c.args.file c.loop-number.number c.loop-number.stages c.port_stage.result c.loop-number.invariant c.port_stage.ensures)

pub returns-clause-range : goal.returns-clause-range
returns-clause-range c = stages_below c.args.design.now c.args.file 0 c.loop-number.stages (few_stages c.args.design.now c.requires) c.loop-number.invariant.each
