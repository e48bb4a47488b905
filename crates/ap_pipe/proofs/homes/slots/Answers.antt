use Rattle.std.proofs.Common.{arith}
use Rattle.ap_pipe.proofs.HomeLemmas.{slots_end, slots_step, some_stages, stage_are}
use Rattle.ap_pipe.proofs.homes.slots.Goals as goal

pub loop-stage-preserved : goal.loop-stage-preserved
loop-stage-preserved c =
    rw c.in_ok-push.ensures.ok
    (slots_step c.args.design.now c.loop-stage.stage c.loop-stage.stages _ c.loop-stage.invariant (stage_are c.args.design.now c.loop-stage.stage c.requires.clean.sound _ c.in_ok-stage_slots.ensures.widths c.in_ok-stage_slots.ensures.homes))

pub returns : goal.returns
returns c = let some = some_stages c.args.design.now c.requires.clean.sound in slots_end c.args.design.now c.loop-stage.stage c.loop-stage.stages (omega arith) c.loop-stage.invariant
