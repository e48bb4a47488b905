use Rattle.std.proofs.Common.{arith}
use Rattle.ap_ports.proofs.Loops.{all_stages, closed_stage, open_stage}
use Rattle.ap_ports.proofs.first.first_loop.Goals as goal
use Rattle.ap_ports.proofs.first.first_loop.Goals.{in-Err, in_default}

pub loop-stage-preserved : goal.loop-stage-preserved
loop-stage-preserved c = elim c.match-stage_ways.branch [
  | in-Err w ↦ rw (w.least-is, w.lower_of.ensures) (closed_stage c.args.design.now (c.loops_and_orders.ensures.line c.args.design.now) c.loop-stage.stage w.in-Err.line c.loop-stage.least w.in-Err.ensures.closed c.loop-stage.invariant)
  | in_default w ↦ rw w.least-is (open_stage c.args.design.now (c.loops_and_orders.ensures.closed c.args.design.now) c.loop-stage.stage c.loop-stage.least w.in_default.ensures.unlooped c.loop-stage.invariant)
]

pub returns : goal.returns
returns c = all_stages c.args.design.now c.requires c.loop-stage.stage c.loop-stage.least (omega arith) c.loop-stage.invariant
