use Rattle.std.proofs.Common.{◌∙◌, sym, arith}
use Rattle.ap_act.proofs.Lines.{lines_use, no_stage, stage_found, stage_more}
use Rattle.ap_act.proofs.outputs.port_stage.Goals as goal

pub returns-then-not-is_empty : goal.returns-then-not-is_empty
returns-then-not-is_empty c =
    stage_found c.args.design.now c.args.port c.loop-stage.stage (record {
      low = omega arith;
      high = omega arith;
      used = lines_use c.args.design.now c.loop-stage.stage c.args.port c.in_ok-lines.lines _ c.in_ok-lines.ensures (sym c.is_empty.ensures ∙ c.if-not-is_empty.true);
    })

pub loop-stage-preserved : goal.loop-stage-preserved
loop-stage-preserved c =
    stage_more c.args.design.now c.args.port c.loop-stage.stage c.loop-stage.invariant
    (lines_use c.args.design.now c.loop-stage.stage c.args.port c.in_ok-lines.lines _ c.in_ok-lines.ensures (sym c.is_empty.ensures ∙ c.if-not-is_empty.false))

pub returns : goal.returns
returns c = no_stage c.args.design.now c.args.port c.requires (λ other low high. c.loop-stage.invariant other low (omega arith))
